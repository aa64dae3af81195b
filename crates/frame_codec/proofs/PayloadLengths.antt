-- How long the payloads of each kind are.
use Rattle.std.proofs.Common.{◌≡◌, ℕ, ◌+◌, ◌-◌, ◌*◌, ◌^◌, ◌<◌, ◌≤◌, List, length, drop, All, refl, sym, subst, ◌∙◌, arith}
use Rattle.std.specs.Prelude.{◌==◌, ◌↔◌, Bool, IsTrue, nat_le, replicate}
use Rattle.std.proofs.lemmas.Bool.{eq-eqb, eqb-true, le-leb, leb-true}
use Rattle.std.proofs.lemmas.List.{length-replicate}
use Rattle.std.proofs.lemmas.List.Elements.{All-replicate}
use Rattle.frame_codec.specs.declared.frame.Frame.{Frame}
use Rattle.frame_codec.specs.declared.frame.Frame.TheVariants.{Load, Hello, HintAsk, DeltaAsk, Query, Edit, Publish, Bye, Append, ChangesAsk, Welcome, HintPart, Delta, Answer, Stale, Done, NoDelta, Changes, Refused}
use Rattle.frame_codec.specs.Numbers.{number_in}
use Rattle.frame_codec.specs.Rows.{RowList}
use Rattle.frame_codec.specs.Frames.{IsPayloadLength, payload_of}
use Rattle.frame_codec.proofs.Payloads.{HasLength, length-payload, payload_sized}

-- zeros are bytes, and words
small : (n k : ℕ) → 0 < k → All (λ b. b < k) (replicate n 0)
small n k lt = All-replicate (λ b. b < k) n 0 lt

-- the lengths that the kind of a frame has, of its payload's length alone
pub has_length : (k n : ℕ) → IsPayloadLength k n → (p : List ℕ) × HasLength k p × (length p ≡ n)
has_length k n h = (payload_of h.0, subst (λ (x : ℕ). HasLength x (payload_of h.0)) h.1 (length-payload h.0 h.2), h.3)

-- one length
exactly : (k m : ℕ) → IsPayloadLength k m → ((p : List ℕ) → HasLength k p → length p ≡ m) → (n : ℕ) → IsTrue (n == m) ↔ IsPayloadLength k n
exactly k m is only n = (
  λ h. subst (IsPayloadLength k) (sym (eqb-true n m h)) is,
  λ h. let p = has_length k n h in eq-eqb n m (sym p.2 ∙ only p.0 p.1),
)

-- a length, and all above it
at_least : (k m : ℕ) → ((n : ℕ) → m ≤ n → IsPayloadLength k n) → ((p : List ℕ) → HasLength k p → m ≤ length p) → (n : ℕ) →
    IsTrue (nat_le m n) ↔ IsPayloadLength k n
at_least k m is only n = (
  λ h. is n (leb-true m n h),
  λ h. let p = has_length k n h in le-leb m n (subst (λ x. m ≤ x) p.2 (only p.0 p.1)),
)

-- some bytes, and then words
before_words : (k m : ℕ) → ((j : ℕ) → IsPayloadLength k (m + 4 * j)) → ((p : List ℕ) → HasLength k p → (j : ℕ) × (length p ≡ m + 4 * j)) →
    (n : ℕ) (b : Bool) → IsTrue b ↔ ((j : ℕ) × (n ≡ m + 4 * j)) → IsTrue b ↔ IsPayloadLength k n
before_words k m is only n b w = (
  λ h. let j = w.0 h in subst (IsPayloadLength k) (sym j.1) (is j.0),
  λ h. let p = has_length k n h in let j = only p.0 p.1 in w.1 (j.0, sym p.2 ∙ j.1),
)

load_length : (n : ℕ) → 5 ≤ n → IsPayloadLength 1 n
load_length n le =
    let f : Frame = Load 0 0 0 (replicate (n - 5) 0) in
    (f, refl, (omega arith, omega arith, omega arith, small (n - 5) (2 ^ 8) (omega arith)), payload_sized f ∙ omega (arith, length-replicate {A = ℕ} (n - 5) 0, le))

hello_length : IsPayloadLength 2 34
hello_length =
    let f : Frame = Hello 0 (replicate 32 0) in
    (f, refl, (omega arith, length-replicate {A = ℕ} 32 0, small 32 (2 ^ 8) (omega arith)), payload_sized f ∙ omega (arith, length-replicate {A = ℕ} 32 0))

hint_ask_length : IsPayloadLength 3 13
hint_ask_length = (HintAsk 0 0 0, refl, (omega arith, omega arith, omega arith), payload_sized (HintAsk 0 0 0))

delta_ask_length : IsPayloadLength 4 8
delta_ask_length = (DeltaAsk 0, refl, omega arith, payload_sized (DeltaAsk 0))

query_length : (m : ℕ) → IsPayloadLength 5 (9 + 4 * m)
query_length m =
    let f : Frame = Query 0 0 (replicate m 0) in
    (f, refl, (omega arith, omega arith, small m (2 ^ 32) (omega arith)), payload_sized f ∙ omega (arith, length-replicate {A = ℕ} m 0))

edit_length : (n : ℕ) → 4 ≤ n → IsPayloadLength 6 n
edit_length n le =
    let f : Frame = Edit 0 (replicate (n - 4) 0) in
    (f, refl, (omega arith, small (n - 4) (2 ^ 8) (omega arith)), payload_sized f ∙ omega (arith, length-replicate {A = ℕ} (n - 4) 0, le))

publish_length : IsPayloadLength 7 0
publish_length = (Publish, refl, tt, payload_sized Publish)

bye_length : IsPayloadLength 8 0
bye_length = (Bye, refl, tt, payload_sized Bye)

pub append_length : (n : ℕ) → IsPayloadLength 9 n
append_length n =
    let f : Frame = Append (replicate n 0) in
    (f, refl, small n (2 ^ 8) (omega arith), payload_sized f ∙ length-replicate {A = ℕ} n 0)

changes_ask_length : IsPayloadLength 10 8
changes_ask_length = (ChangesAsk 0, refl, omega arith, payload_sized (ChangesAsk 0))

welcome_length : IsPayloadLength 130 53
welcome_length =
    let f : Frame = Welcome 0 0 0 0 0 0 0 (replicate 32 0) in (
      f,
      refl,
      (omega arith, omega arith, omega arith, omega arith, omega arith, omega arith, omega arith, length-replicate {A = ℕ} 32 0, small 32 (2 ^ 8) (omega arith)),
      payload_sized f ∙ omega (arith, length-replicate {A = ℕ} 32 0),
    )

hint_part_length : (m : ℕ) → IsPayloadLength 131 (13 + 4 * m)
hint_part_length m =
    let f : Frame = HintPart 0 0 0 (replicate m 0) in
    (f, refl, (omega arith, omega arith, omega arith, small m (2 ^ 32) (omega arith)), payload_sized f ∙ omega (arith, length-replicate {A = ℕ} m 0))

delta_length : (m : ℕ) → IsPayloadLength 132 (22 + 4 * m)
delta_length m =
    let rows : RowList = record { dimension = 0; words = replicate m 0 } in
    let f : Frame = Delta 0 0 0 rows in (
      f,
      refl,
      (
        omega arith,
        omega arith,
        omega arith,
        omega arith,
        record { count = m; len = omega (arith, length-replicate {A = ℕ} m 0) },
        small m (2 ^ 32) (omega arith),
      ),
      payload_sized f ∙ omega (arith, length-replicate {A = ℕ} m 0),
    )

answer_length : (m : ℕ) → IsPayloadLength 133 (9 + 4 * m)
answer_length m =
    let f : Frame = Answer 0 0 (replicate m 0) in
    (f, refl, (omega arith, omega arith, small m (2 ^ 32) (omega arith)), payload_sized f ∙ omega (arith, length-replicate {A = ℕ} m 0))

stale_length : IsPayloadLength 134 12
stale_length = (Stale 0 0, refl, (omega arith, omega arith), payload_sized (Stale 0 0))

done_length : IsPayloadLength 135 8
done_length = (Done 0, refl, omega arith, payload_sized (Done 0))

no_delta_length : IsPayloadLength 136 12
no_delta_length = (NoDelta 0 0, refl, (omega arith, omega arith), payload_sized (NoDelta 0 0))

changes_length : (n : ℕ) → 20 ≤ n → IsPayloadLength 138 n
changes_length n le =
    let f : Frame = Changes 0 0 0 (replicate (n - 20) 0) in (
      f,
      refl,
      (omega arith, omega arith, omega arith, small (n - 20) (2 ^ 8) (omega arith)),
      payload_sized f ∙ omega (arith, length-replicate {A = ℕ} (n - 20) 0, le),
    )

refused_length : IsPayloadLength 143 1
refused_length = (Refused 0, refl, omega arith, payload_sized (Refused 0))

-- ---- by kind

pub load_lengths : (n : ℕ) → IsTrue (nat_le 5 n) ↔ IsPayloadLength 1 n
load_lengths = at_least 1 5 load_length (λ p h. h)

pub hello_lengths : (n : ℕ) → IsTrue (n == 34) ↔ IsPayloadLength 2 n
hello_lengths = exactly 2 34 hello_length (λ p h. h)

pub hint_ask_lengths : (n : ℕ) → IsTrue (n == 13) ↔ IsPayloadLength 3 n
hint_ask_lengths = exactly 3 13 hint_ask_length (λ p h. h)

pub delta_ask_lengths : (n : ℕ) → IsTrue (n == 8) ↔ IsPayloadLength 4 n
delta_ask_lengths = exactly 4 8 delta_ask_length (λ p h. h)

pub query_lengths : (n : ℕ) (b : Bool) → IsTrue b ↔ ((j : ℕ) × (n ≡ 9 + 4 * j)) → IsTrue b ↔ IsPayloadLength 5 n
query_lengths = before_words 5 9 query_length (λ p h. h)

pub edit_lengths : (n : ℕ) → IsTrue (nat_le 4 n) ↔ IsPayloadLength 6 n
edit_lengths = at_least 6 4 edit_length (λ p h. h)

pub publish_lengths : (n : ℕ) → IsTrue (n == 0) ↔ IsPayloadLength 7 n
publish_lengths = exactly 7 0 publish_length (λ p h. h)

pub bye_lengths : (n : ℕ) → IsTrue (n == 0) ↔ IsPayloadLength 8 n
bye_lengths = exactly 8 0 bye_length (λ p h. h)

pub changes_ask_lengths : (n : ℕ) → IsTrue (n == 8) ↔ IsPayloadLength 10 n
changes_ask_lengths = exactly 10 8 changes_ask_length (λ p h. h)

pub welcome_lengths : (n : ℕ) → IsTrue (n == 53) ↔ IsPayloadLength 130 n
welcome_lengths = exactly 130 53 welcome_length (λ p h. h)

pub hint_part_lengths : (n : ℕ) (b : Bool) → IsTrue b ↔ ((j : ℕ) × (n ≡ 13 + 4 * j)) → IsTrue b ↔ IsPayloadLength 131 n
hint_part_lengths = before_words 131 13 hint_part_length (λ p h. h)

pub delta_lengths : (n : ℕ) (b : Bool) → IsTrue b ↔ ((j : ℕ) × (n ≡ 22 + 4 * j)) → IsTrue b ↔ IsPayloadLength 132 n
delta_lengths = before_words 132 22 delta_length (λ p h. (h.0 * (number_in 2 (drop 20 p) + 1), h.1))

pub answer_lengths : (n : ℕ) (b : Bool) → IsTrue b ↔ ((j : ℕ) × (n ≡ 9 + 4 * j)) → IsTrue b ↔ IsPayloadLength 133 n
answer_lengths = before_words 133 9 answer_length (λ p h. h)

pub stale_lengths : (n : ℕ) → IsTrue (n == 12) ↔ IsPayloadLength 134 n
stale_lengths = exactly 134 12 stale_length (λ p h. h)

pub done_lengths : (n : ℕ) → IsTrue (n == 8) ↔ IsPayloadLength 135 n
done_lengths = exactly 135 8 done_length (λ p h. h)

pub no_delta_lengths : (n : ℕ) → IsTrue (n == 12) ↔ IsPayloadLength 136 n
no_delta_lengths = exactly 136 12 no_delta_length (λ p h. h)

pub changes_lengths : (n : ℕ) → IsTrue (nat_le 20 n) ↔ IsPayloadLength 138 n
changes_lengths = at_least 138 20 changes_length (λ p h. h)

pub refused_lengths : (n : ℕ) → IsTrue (n == 1) ↔ IsPayloadLength 143 n
refused_lengths = exactly 143 1 refused_length (λ p h. h)

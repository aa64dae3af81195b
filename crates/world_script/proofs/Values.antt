-- What the words of a line mean.
use Rattle.std.proofs.Common.{◌≡◌, ◌≢◌, ◌<◌, ◌↔◌, ◌&&◌, ℕ, suc, List, [], ◌∷◌, length, Bool, true, false, cond, Option, Some, None, IsSome, IfSome, IfOk, SomeIff, Result, Ok, Err, refl, sym, ap, subst, ◌∙◌, ◌==◌, nat_lt}
use Rattle.std.specs.Char.{is_ascii, is_digit, digit_value}
use Rattle.std.specs.List.{slice_split, list_all, AllPass}
use Rattle.std.specs.Result.{result_ok}
use Rattle.std.specs.Str.{IsAscii}
use Rattle.std.specs.Str.Parse.{AllDigits, IsNumeral, digits_value}
use Rattle.std.proofs.lemmas.Bool.{eqb-true, eq-eqb}
use Rattle.std.proofs.lemmas.Bool.Decides.{Decides-ltb}
use Rattle.std.specs.declared.alloc.AllocError.{AllocError}
use Rattle.hex.specs.Hex.{decode_of, is_hex_digit}
use Rattle.hex.specs.declared.error.FromHexError.{FromHexError}
use Rattle.hex.proofs.HexLemmas.{decode_of-ok}
use Rattle.world_script.specs.declared.line.Line.{Line}
use Rattle.world_script.specs.Lines.{bytes32_in, is_numeral, line_of, line_of_words, numeral_value}

pub and_true : (a b : Bool) → a ≡ true → b ≡ true → (a && b) ≡ true
and_true true true p q = refl
and_true true false p q = q
and_true false b p q = cc

pub and_left : (a b : Bool) → (a && b) ≡ true → a ≡ true
and_left true b p = refl
and_left false b p = cc

pub and_right : (a b : Bool) → (a && b) ≡ true → b ≡ true
and_right true b p = p
and_right false b p = cc

-- a choice whose test fails gives nothing
pub nothing_of : {A : Type 0} (b : Bool) (x : A) → (b ≡ true → ⊥) → None ≡ cond b (Some x) None
nothing_of true x h = absurd (h refl)
nothing_of false x h = refl

-- a choice whose test passes gives its value
pub value_of : {A : Type 0} (b : Bool) (x y : A) → b ≡ true → x ≡ y → Some x ≡ cond b (Some y) None
value_of true x y p e = ap (λ z. Some z) e
value_of false x y p e = cc

-- digits by a test
pub digits_pass : (word : List ℕ) → AllDigits 10 word → list_all (λ c. is_digit c 10) word ≡ true
digits_pass [] h = refl
digits_pass (c ∷ cs) h =
    and_true (is_digit c 10) (list_all (λ x. is_digit x 10) cs) ((Decides-ltb (digit_value c) 10).1 (h.0)) (digits_pass cs h.1)

pub pass_digits : (word : List ℕ) → list_all (λ c. is_digit c 10) word ≡ true → AllDigits 10 word
pass_digits [] h = tt
pass_digits (c ∷ cs) h = (
  (Decides-ltb (digit_value c) 10).0 (and_left (is_digit c 10) (list_all (λ x. is_digit x 10) cs) h),
  pass_digits cs (and_right (is_digit c 10) (list_all (λ x. is_digit x 10) cs) h),
)

-- what a number reads is its value
pub number_is : (word : List ℕ) (limit : ℕ) (r : Option ℕ) →
    SomeIff r (IsNumeral 10 word × (digits_value 10 word < limit)) (digits_value 10 word) → r ≡ numeral_value limit word
number_is word limit None h =
    nothing_of (is_numeral word && nat_lt (digits_value 10 word) limit) (digits_value 10 word)
    (λ (p : (is_numeral word && nat_lt (digits_value 10 word) limit) ≡ true).
    let n : is_numeral word ≡ true = and_left (is_numeral word) (nat_lt (digits_value 10 word) limit) p in
    h (
      (
        (Decides-ltb 0 (length word)).0 (and_left (nat_lt 0 (length word)) (list_all (λ c. is_digit c 10) word) n),
        pass_digits word (and_right (nat_lt 0 (length word)) (list_all (λ c. is_digit c 10) word) n),
      ),
      (Decides-ltb (digits_value 10 word) limit).0 (and_right (is_numeral word) (nat_lt (digits_value 10 word) limit) p),
    ))
number_is word limit (Some x) h =
    value_of (is_numeral word && nat_lt (digits_value 10 word) limit) x (digits_value 10 word)
    (and_true (is_numeral word) (nat_lt (digits_value 10 word) limit)
    (and_true (nat_lt 0 (length word)) (list_all (λ c. is_digit c 10) word) ((Decides-ltb 0 (length word)).1 (h.0.0.0)) (digits_pass word h.0.0.1))
    ((Decides-ltb (digits_value 10 word) limit).1 h.0.1))
    h.1

-- nothing decodes if no 32 bytes were found
pub none_decodes : (word : List ℕ) (d : Result (List ℕ) FromHexError) → decode_of word ≡ d → (AllPass is_hex_digit word → ⊥) → None ≡ result_ok d
none_decodes word (Ok bytes) e h = absurd (h (decode_of-ok word bytes e).1)
none_decodes word (Err f) e h = refl

-- what a text of 64 hex digits reads is its bytes
pub bytes32_is : (word : List ℕ) (r : Option (List ℕ)) → IfSome r (λ bytes. decode_of word ≡ Ok bytes) →
    (IsSome r ↔ ((length word ≡ 64) × AllPass is_hex_digit word)) → r ≡ bytes32_in word
bytes32_is word None value found =
    elim (length word == 64) as (λ b. ((b ≡ true) → length word ≡ 64) → None ≡ cond b (result_ok (decode_of word)) None) [
      | true ↦ λ (k : true ≡ true → length word ≡ 64). none_decodes word (decode_of word) refl
          (λ (h : AllPass is_hex_digit word). let bad : false ≡ true = found.1 (k refl, h) in cc)
      | false ↦ λ (k : false ≡ true → length word ≡ 64). refl
    ] (λ (e : (length word == 64) ≡ true). eqb-true (length word) 64 e)
bytes32_is word (Some bytes) value found =
    ap (λ d. result_ok d) (sym value)
    ∙ ap (λ b. cond b (result_ok (decode_of word)) None) (sym (eq-eqb (length word) 64 (found.0 refl).0))

-- ASCII by a test
pub ascii_passes : (text : List ℕ) → IsAscii text → list_all is_ascii text ≡ true
ascii_passes [] h = refl
ascii_passes (b ∷ bs) h = and_true (is_ascii b) (list_all is_ascii bs) ((Decides-ltb b 128).1 (h 0)) (ascii_passes bs (λ (i : ℕ). h (suc i)))

-- a line of ASCII is read by its words
pub line_is : (r : Result (Option Line) AllocError) (t u : List ℕ) → t ≡ u → IsAscii u →
    IfOk r (λ found. found ≡ line_of_words (slice_split (λ b. b == 32) t)) → IfOk r (λ found. found ≡ line_of u)
line_is r t u e ascii h =
    subst (λ (x : Option Line). IfOk r (λ found. found ≡ x))
    (ap (λ (v : List ℕ). line_of_words (slice_split (λ b. b == 32) v)) e
    ∙ ap (λ (b : Bool). cond b (line_of_words (slice_split (λ b. b == 32) u)) None) (sym (ascii_passes u ascii)))
    h

-- lines have one, two, three or five words
pub other_words : (words : List (List ℕ)) → length words ≢ 1 → length words ≢ 2 → length words ≢ 3 → length words ≢ 5 → None ≡ line_of_words words
other_words [] p q r s = refl
other_words (a ∷ []) p q r s = absurd (p refl)
other_words (a ∷ b ∷ []) p q r s = absurd (q refl)
other_words (a ∷ b ∷ c ∷ []) p q r s = absurd (r refl)
other_words (a ∷ b ∷ c ∷ d ∷ []) p q r s = refl
other_words (a ∷ b ∷ c ∷ d ∷ e ∷ []) p q r s = absurd (s refl)
other_words (a ∷ b ∷ c ∷ d ∷ e ∷ f ∷ more) p q r s = refl

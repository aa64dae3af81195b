-- Entries that are read one after another, and linked anew.
use Rattle.std.proofs.Common.{◌≡◌, ℕ, ◌+◌, ◌<◌, ◌≤◌, List, [], ◌∷◌, ◌++◌, length, take, drop, refl, sym, ap, ◌∙◌, append_assoc, append-nil, arith, Result, Ok, Err}
use Rattle.std.proofs.lemmas.List.{length-drop, take_at, drop_at, drop_all}
use Rattle.publication_log.specs.declared.header.LogHeader.{LogHeader}
use Rattle.publication_log.specs.Publications.{Published, body_bytes, IsPublished}
use Rattle.publication_log.specs.Entries.{log_entry, framed, next_link, last_link, chain_bytes, IsBody}
use Rattle.publication_log.specs.Logs.{log_bytes, end_link, bodies_of, AreNext, ReadsLog}
use Rattle.publication_log.specs.Laws.{WholeLogIsRead}
use Rattle.publication_log.proofs.Chains.{chain_push, last_push}
use Rattle.publication_log.proofs.Frames.{length-next, entry_parts, one_frame}
use Rattle.publication_log.proofs.Torn.{torn_empty}
use Rattle.publication_log.proofs.Verdicts.{verdict_is}

-- some publications were read, and the bytes are the entries of the others
pub record IsReadUpTo (link : List ℕ) (ps done left : List Published) (bytes : List ℕ) : Type 0 where
  pub version : ℕ
  pub each : AreNext version left
  pub all : ps ≡ done ++ left
  pub bytes_are : bytes ≡ chain_bytes (last_link link (bodies_of done)) (bodies_of left)

pub none_read : (link : List ℕ) (version : ℕ) (ps : List Published) (bytes : List ℕ) → AreNext version ps → bytes ≡ chain_bytes link (bodies_of ps) →
    IsReadUpTo link ps [] ps bytes
none_read link version ps bytes each e = record { version = version; each = each; all = refl; bytes_are = e }

-- one more was read
pub record ReadsOne (link : List ℕ) (ps done left : List Published) (body rest : List ℕ) : Type 0 where
  pub first : Published
  pub others : List Published
  pub left_is : left ≡ first ∷ others
  pub first_is : IsPublished first
  pub body_is : body ≡ body_bytes first
  pub more : IsReadUpTo link ps (done ++ first ∷ []) others rest

pub reads_one : (link : List ℕ) (ps done left : List Published) (bytes body digest rest : List ℕ) → IsReadUpTo link ps done left bytes → IsBody body →
    length digest ≡ 32 → bytes ≡ framed body ++ (digest ++ rest) → length rest < length bytes → ReadsOne link ps done left body rest
reads_one link ps done [] bytes body digest rest is small long e shorter =
    absurd (let no : ⊥ = omega (arith, shorter, ap (λ (b : List ℕ). length b) is.bytes_are) in no)
reads_one link ps done (p ∷ others) bytes body digest rest is small long e shorter =
    let at : List ℕ = last_link link (bodies_of done) in
    let next : List ℕ = next_link at (body_bytes p) in
    let after : List ℕ = chain_bytes next (bodies_of others) in
    let same = one_frame body (body_bytes p) digest next rest after small is.each.0.len long (length-next at (body_bytes p))
    (sym e ∙ is.bytes_are ∙ entry_parts at (body_bytes p) after) in
    record {
      first = p;
      others = others;
      left_is = refl;
      first_is = is.each.0;
      body_is = same.0;
      more = record {
        version = is.version + 1;
        each = is.each.2;
        all = is.all ∙ sym (append_assoc done (p ∷ []) others);
        bytes_are = same.2 ∙ ap (λ (x : List ℕ). chain_bytes x (bodies_of others)) (sym (last_push link done p));
      };
    }

pub none_left : (link : List ℕ) (ps done left : List Published) (bytes : List ℕ) → IsReadUpTo link ps done left bytes →
    ((body digest rest : List ℕ) → IsBody body → length digest ≡ 32 → bytes ≡ framed body ++ (digest ++ rest) → ⊥) → left ≡ []
none_left link ps done [] bytes is none = refl
none_left link ps done (p ∷ others) bytes is none =
    let at : List ℕ = last_link link (bodies_of done) in
    let after : List ℕ = chain_bytes (next_link at (body_bytes p)) (bodies_of others) in
    absurd (none (body_bytes p) (next_link at (body_bytes p)) after is.each.0.len (length-next at (body_bytes p))
    (is.bytes_are ∙ entry_parts at (body_bytes p) after))

-- all of them were read
pub all_read : (link : List ℕ) (ps done left : List Published) (bytes : List ℕ) → IsReadUpTo link ps done left bytes → left ≡ [] → ps ≡ done
all_read link ps done left bytes is none = is.all ∙ ap (λ (x : List Published). done ++ x) none ∙ append-nil done

-- the bytes of those after the first n
pub after_first : (link : List ℕ) (ps done left : List Published) (bytes : List ℕ) (n : ℕ) → IsReadUpTo link ps done left bytes → length done ≡ n →
    bytes ≡ chain_bytes (last_link link (bodies_of (take n ps))) (bodies_of (drop n ps))
after_first link ps done left bytes n is count =
    let first : take n ps ≡ done = ap (take n) is.all ∙ take_at done left n count in
    let others : drop n ps ≡ left = ap (drop n) is.all ∙ drop_at done left n count in
    is.bytes_are
    ∙ ap (λ (x : List Published). chain_bytes (last_link link (bodies_of x)) (bodies_of left)) (sym first)
    ∙ ap (λ (x : List Published). chain_bytes (last_link link (bodies_of (take n ps))) (bodies_of x)) (sym others)

-- or none, if there are no more
pub after_all : (link : List ℕ) (ps done left : List Published) (bytes : List ℕ) (n : ℕ) → IsReadUpTo link ps done left bytes → left ≡ [] → length done ≤ n →
    bytes ≡ chain_bytes (last_link link (bodies_of (take n ps))) (bodies_of (drop n ps))
after_all link ps done left bytes n is none few =
    let all : ps ≡ done = all_read link ps done left bytes is none in
    let past : length ps ≤ n = omega (arith, few, ap (λ (x : List Published). length x) all) in
    is.bytes_are
    ∙ ap (λ (x : List Published). chain_bytes (last_link link (bodies_of done)) (bodies_of x)) none
    ∙ ap (λ (x : List Published). chain_bytes (last_link link (bodies_of (take n ps))) (bodies_of x)) (sym (drop_all n ps past))

-- the entries of those that were read, linked anew
pub linked_on : (first bytes more body : List ℕ) (link at : List ℕ) (done : List Published) (p : Published) →
    bytes ≡ first ++ chain_bytes link (bodies_of done) → at ≡ last_link link (bodies_of done) → more ≡ bytes ++ log_entry at body → body ≡ body_bytes p →
    more ≡ first ++ chain_bytes link (bodies_of (done ++ p ∷ []))
linked_on first bytes more body link at done p before here added is =
    added
    ∙ ap (λ (x : List ℕ). bytes ++ log_entry at x) is
    ∙ ap (λ (x : List ℕ). bytes ++ log_entry x (body_bytes p)) here
    ∙ ap (λ (x : List ℕ). x ++ log_entry (last_link link (bodies_of done)) (body_bytes p)) before
    ∙ append_assoc first (chain_bytes link (bodies_of done)) (log_entry (last_link link (bodies_of done)) (body_bytes p))
    ∙ ap (λ (x : List ℕ). first ++ x) (sym (chain_push link done p))

-- ---- a whole log is read as its publications

ok_parts : {X E : Type 0} (a b : X) → Ok a ≡ (let r : Result X E = Ok b in r) → a ≡ b
ok_parts a b e = cc

whole_reads : (h : LogHeader) (ps : List Published) → AreNext h.version ps → ReadsLog h (log_bytes h ps) ps []
whole_reads h ps each = record {
  begins = record { whole = sym (append-nil (log_bytes h ps)); each = each };
  torn = torn_empty (end_link h ps);
}

pub whole_log : WholeLogIsRead
whole_log h ps each = (
  λ qs found is.
      let same = ok_parts (qs, drop found.len (log_bytes h ps)) (ps, [])
      (verdict_is h (log_bytes h ps) ps [] (Ok (qs, drop found.len (log_bytes h ps))) (whole_reads h ps each) is.reads) in
      let none : drop found.len (log_bytes h ps) ≡ [] = ap (λ (x : List Published × List ℕ). x.1) same in (
        ap (λ (x : List Published × List ℕ). x.0) same,
        omega (arith, is.within, length-drop found.len (log_bytes h ps), ap (λ (x : List ℕ). length x) none),
      ),
  λ cause bad. absurd (let no = verdict_is h (log_bytes h ps) ps [] (Err cause) (whole_reads h ps each) bad in cc),
)

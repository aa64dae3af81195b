-- The lines on some hints.
use Rattle.std.proofs.Common.{◌≡◌, ℕ, suc, ◌+◌, ◌<◌, ◌≤◌, List, [], ◌∷◌, ◌++◌, length, drop, get_or, sym, ap, ◌∙◌, append_assoc, append-nil, arith}
use Rattle.std.proofs.Math.Seq.{drop-cons}
use Rattle.std.proofs.lemmas.List.{length-drop, nil_from_length}
use Rattle.hint_file.specs.declared.heads.KeptHead.{KeptHead}
use Rattle.hint_file.specs.Texts.{hint_text, hint_texts}

-- the lines on one more
pub one_more : (text new lines : List ℕ) (heads : List KeptHead) (k : ℕ) (x : KeptHead) → k < length heads → x ≡ get_or heads k x →
    text ++ hint_texts (drop k heads) ≡ hint_texts heads → lines ≡ hint_text x.fields → new ≡ text ++ lines →
    new ++ hint_texts (drop (k + 1) heads) ≡ hint_texts heads
unfolding hint_texts
one_more text new lines heads k x lt is before named added =
    let next : suc k ≡ k + 1 = omega arith in
    let first : drop k heads ≡ x ∷ drop (k + 1) heads =
    drop-cons heads k x lt ∙ ap (λ (y : KeptHead). y ∷ drop (suc k) heads) (sym is) ∙ ap (λ (n : ℕ). x ∷ drop n heads) next in
    ap (λ (b : List ℕ). b ++ hint_texts (drop (k + 1) heads)) added
    ∙ append_assoc text lines (hint_texts (drop (k + 1) heads))
    ∙ ap (λ (b : List ℕ). text ++ (b ++ hint_texts (drop (k + 1) heads))) named
    ∙ ap (λ (hs : List KeptHead). text ++ hint_texts hs) (sym first)
    ∙ before

-- the lines on all
pub all_done : (text : List ℕ) (heads : List KeptHead) (k : ℕ) → length heads ≤ k → text ++ hint_texts (drop k heads) ≡ hint_texts heads →
    text ≡ hint_texts heads
unfolding hint_texts
all_done text heads k le e =
    let none : drop k heads ≡ [] = nil_from_length (drop k heads) (omega (arith, le, length-drop k heads)) in
    sym (append-nil text) ∙ ap (λ (hs : List KeptHead). text ++ hint_texts hs) (sym none) ∙ e

-- Lists that are joined, and the rows of them.
use Rattle.std.proofs.Common.{◌≡◌, ℕ, ◌+◌, ◌<◌, ◌++◌, arith, ap, sym, ◌∙◌, List, [], ◌∷◌, length, map, take, get_or, add-one, append-nil, subst}
use Rattle.std.proofs.Math.Seq.{take-suc}
use Rattle.std.proofs.Math.Dec.{eqb}
use Rattle.std.specs.List.{flat_map, Contains, dedup}
use Rattle.std.specs.List.Sorted.{IsPermutation, IsSorted}
use Rattle.std.specs.List.Retain.{IsFiltered, DiffersFromLast}
use Rattle.std.specs.Ordering.{nat_cmp}
use Rattle.std.proofs.lemmas.Grind.{flat_map-append}
use Rattle.std.proofs.lemmas.List.{length-map, get_or-map}
use Rattle.std.proofs.lemmas.List.Concat.{flat_map-cons}
use Rattle.std.proofs.lemmas.List.Filters.{dedup_is}
use Rattle.std.proofs.lemmas.List.Kept.{Contains-dedup_nat, Contains-from_dedup}
use Rattle.std.proofs.lemmas.List.Sorted.{Contains-permutation, IsPermutation-sym}
use Rattle.std.proofs.lemmas.Map.Keys.{IsStrictlyIncreasing-dedup}
use Rattle.hint_update.specs.Logs.{AreRowsOf}

-- one list more
pub joined_more : {X : Type 0} (f : X → List ℕ) (xs : List X) (k : ℕ) (d : X) → k < length xs →
    flat_map (λ (list : List ℕ). list) (take (k + 1) (map f xs)) ≡ flat_map (λ (list : List ℕ). list) (take k (map f xs)) ++ f (get_or xs k d)
joined_more f xs k d l =
    let same : List ℕ → List ℕ = λ list. list in
    let more : take (k + 1) (map f xs) ≡ take k (map f xs) ++ f (get_or xs k d) ∷ [] =
    ap (λ n. take n (map f xs)) (add-one k) ∙ take-suc (map f xs) k (f d) (omega (arith, l, length-map xs f))
    ∙ ap (λ (x : List ℕ). take k (map f xs) ++ x ∷ []) (get_or-map f xs k d (f d) l) in
    ap (flat_map same) more ∙ flat_map-append same (take k (map f xs)) (f (get_or xs k d) ∷ [])
    ∙ ap (λ (x : List ℕ). flat_map same (take k (map f xs)) ++ x) (flat_map-cons same (f (get_or xs k d)) [] ∙ append-nil (f (get_or xs k d)))

-- rows that are sorted, of which each stays once
pub sorted_rows : (lists : List (List ℕ)) (rows sorted kept : List ℕ) → rows ≡ flat_map (λ (list : List ℕ). list) lists →
    IsPermutation rows sorted → IsSorted nat_cmp sorted → IsFiltered (DiffersFromLast eqb) [] sorted kept → AreRowsOf lists kept
sorted_rows lists rows sorted kept is moved up left =
    let once : kept ≡ dedup eqb sorted = dedup_is eqb sorted kept left in
    record {
      ascending = rw once (IsStrictlyIncreasing-dedup sorted up);
      each = λ r. (
        λ h. subst (λ x. Contains x r) is
            (Contains-permutation sorted rows r (IsPermutation-sym rows sorted moved) (Contains-from_dedup eqb sorted r (subst (λ x. Contains x r) once h))),
        λ h. subst (λ x. Contains x r) (sym once)
            (Contains-dedup_nat sorted r (Contains-permutation rows sorted r moved (subst (λ x. Contains x r) (sym is) h))),
      );
    }

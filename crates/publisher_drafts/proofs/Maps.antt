-- Changes in a map's entries.
use Rattle.std.proofs.Common.{◌≡◌, ℕ, ap, ◌∙◌, sym, refl, List, [], ◌∷◌, Bool, true, false, cond}
use Rattle.std.specs.Prelude.{nat_lt, ◌==◌}
use Rattle.std.specs.declared.vec.Vec.{Vec}
use Rattle.std.specs.declared.alloc.Global.{Global}
use Rattle.std.specs.declared.cmp.Ordering.{Ordering}
use Rattle.std.specs.declared.cmp.Ordering.TheVariants.{Less, Equal, Greater}
use Rattle.std.specs.Ordering.{nat_cmp, match_ordering}
use Rattle.std.specs.BTreeMap.{insert_entry}
use Rattle.std.proofs.lemmas.Bool.{eqb-true}
use Rattle.publication_log.specs.Publications.{Placed}
use Rattle.publisher_drafts.specs.Merging.{changes_of_map, merged_change}

-- a change by its place and its bytes
abbrev pub placed : ℕ → List ℕ → Placed
placed place bytes = record { place = place; bytes = bytes }

-- an entry that is inserted
pub changes_inserted : (es : List (ℕ × Vec ℕ Global)) (k : ℕ) (v : Vec ℕ Global) →
    changes_of_map (insert_entry nat_cmp es k v) ≡ merged_change (record { place = k; bytes = v.items }) (changes_of_map es)
changes_inserted [] k v = refl
changes_inserted (e ∷ es) k v = by_order (nat_lt k e.0) (k == e.0) refl (changes_inserted es k v)
  where
    by_order : (b eq : Bool) → (k == e.0) ≡ eq →
        changes_of_map (insert_entry nat_cmp es k v) ≡ merged_change (record { place = k; bytes = v.items }) (changes_of_map es) →
        changes_of_map (match_ordering (cond b Less (cond eq Equal Greater)) ((k, v) ∷ e ∷ es) ((e.0, v) ∷ es) (e ∷ insert_entry nat_cmp es k v))
        ≡ cond b (record { place = k; bytes = v.items } ∷ changes_of_map (e ∷ es)) (cond eq (record { place = k; bytes = v.items } ∷ changes_of_map es)
        (record { place = e.0; bytes = e.1.items } ∷ merged_change (record { place = k; bytes = v.items }) (changes_of_map es)))
    by_order true eq is rest = refl
    by_order false true is rest = ap (λ (n : ℕ). placed n v.items ∷ changes_of_map es) (sym (eqb-true k e.0 is))
    by_order false false is rest = ap (λ (cs : List Placed). placed e.0 e.1.items ∷ cs) rest

-- How much is held after a connection was put into a place, and the one with the most was taken
-- away.
use Rattle.std.proofs.Common.{◌≡◌, ◌<◌, ◌≤◌, ◌+◌, ◌-◌, ℕ, List, length, Option, None, Some, get_or, set, sym, ap, subst, ◌∙◌, arith}
use Rattle.std.proofs.lemmas.List.{get_or-set_same, get_or_default, length-set}
use Rattle.std.proofs.lemmas.List.Sums.{sum_by-set}
use Rattle.std.specs.List.{IsFirstMaxByKey}
use Rattle.connection_table.specs.declared.connection.ServedConnection.{ServedConnection}
use Rattle.connection_table.specs.Places.{connection_at, held_bytes, all_held}

sum_of : (s all filled after own u free size : ℕ) → s ≡ all → filled + free ≡ all + own → free ≡ 0 → after + size ≡ filled + 0 → size ≡ u → own ≤ u → s - (u - own) ≡ after
sum_of s all filled after own u free size a b c d e f = omega arith

-- the most that is held for one is no less than what is held for a connection that was put into a
-- place
pub largest_is_no_less : (places : List (Option ServedConnection)) (place : ℕ) (c : ServedConnection) (best : ℕ) (x : Option ServedConnection) → place < length places
    → IsFirstMaxByKey held_bytes (set places place (Some c)) (length (set places place (Some c))) best
    → x ≡ get_or (set places place (Some c)) best x → c.held ≤ held_bytes x
largest_is_no_less places place c best x within max is =
    let filled = set places place (Some c) in
    let there : place < length filled = subst (λ n. place < n) (sym (length-set places place (Some c))) within in
    let le : held_bytes (get_or filled place x) ≤ held_bytes (get_or filled best x) = max.1 place x there in
    let own : c.held ≤ held_bytes (get_or filled best x) =
    subst (λ (o : Option ServedConnection). held_bytes o ≤ held_bytes (get_or filled best x)) (get_or-set_same places place (Some c) x within) le in
    subst (λ (o : Option ServedConnection). c.held ≤ held_bytes o) (sym is) own

-- what is held for all after a connection was put into a free place and the one with the most was
-- taken away
pub sum_without_largest : (places : List (Option ServedConnection)) (place : ℕ) (c : ServedConnection) (best : ℕ) (x : Option ServedConnection) (s : ℕ) → place < length places
    → connection_at places place ≡ None
    → IsFirstMaxByKey held_bytes (set places place (Some c)) (length (set places place (Some c))) best
    → x ≡ get_or (set places place (Some c)) best x → s ≡ all_held places
    → s - (held_bytes x - c.held) ≡ all_held (set (set places place (Some c)) best None)
sum_without_largest places place c best x s within free max is sum =
    let filled = set places place (Some c) in
    let more = sum_by-set held_bytes places place (Some c) None within in
    let none : held_bytes (get_or places place None) ≡ 0 = ap held_bytes free in
    let less = sum_by-set held_bytes filled best None None max.0 in
    let there : get_or filled best None ≡ x = get_or_default filled best None x max.0 ∙ sym is in
    let size : held_bytes (get_or filled best None) ≡ held_bytes x = ap held_bytes there in
    let own = largest_is_no_less places place c best x within max is in
    sum_of s (all_held places) (all_held filled) (all_held (set filled best None)) c.held (held_bytes x)
    (held_bytes (get_or places place None)) (held_bytes (get_or filled best None)) sum more none less size own

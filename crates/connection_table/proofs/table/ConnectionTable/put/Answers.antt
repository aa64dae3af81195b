use Rattle.std.proofs.Common.{◌≡◌, ◌≤◌, ◌-◌, length, Option, None, Some, set, sym, subst, List, arith}
use Rattle.std.specs.List.{IsFirstMaxByKey}
use Rattle.connection_table.specs.declared.connection.ServedConnection.{ServedConnection}
use Rattle.connection_table.specs.Places.{held_bytes, all_held}
use Rattle.connection_table.proofs.Largest.{largest_is_no_less, sum_without_largest}
use Rattle.connection_table.proofs.table.ConnectionTable.put.Goals as goal

pub overflow_sub-self-2 : goal.overflow_sub-self-2
overflow_sub-self-2 c =
    let max = subst (λ (xs : List (Option ServedConnection)). IsFirstMaxByKey held_bytes xs (length xs) c.largest-largest.result) c.deref.ensures.value
    c.largest-largest.ensures in
    let own = largest_is_no_less c.args.self.now.connections.items c.args.place c.args.connection c.largest-largest.result c.index.result.now
    c.requires.within max c.index.ensures in
    subst (λ n. c.args.connection.held ≤ n) (sym c.held_at.ensures) own

pub invariant_of-self-2 : goal.invariant_of-self-2
invariant_of-self-2 c =
    let max = subst (λ (xs : List (Option ServedConnection)). IsFirstMaxByKey held_bytes xs (length xs) c.largest-largest.result) c.deref.ensures.value
    c.largest-largest.ensures in
    let sum = sum_without_largest c.args.self.now.connections.items c.args.place c.args.connection c.largest-largest.result c.index.result.now
    c.args.self.now.held c.requires.within c.requires.free max c.index.ensures c.args.self.now.is_sum in
    let noted = subst (λ n. c.args.self.now.held - (n - c.args.connection.held)
    ≡ all_held (set (set c.args.self.now.connections.items c.args.place (Some c.args.connection)) c.largest-largest.result None))
    (sym c.held_at.ensures) sum in
    record {
      is_sum = subst (λ (o : Option ServedConnection). c.args.self.now.held - (c.held_at.result - c.args.connection.held)
          ≡ all_held (set (set c.args.self.now.connections.items c.args.place (Some c.args.connection)) c.largest-largest.result o))
          (sym c.take.ensures.after) noted;
      within = let w = c.args.self.now.within in omega (arith, w);
    }

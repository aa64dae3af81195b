use Rattle.std.proofs.Common.{◌≡◌, ◌<◌, List, ◌∷◌, length, drop, arith, ap, ◌∙◌, sym, subst, true, false}
use Rattle.std.proofs.lemmas.List.{drop_more}
use Rattle.std.proofs.lemmas.List.Elements.{All-drop}
use Rattle.record_log.specs.OldRecords.{OldBytes}
use Rattle.record_log.specs.Logs.{are_within}
use Rattle.record_log.specs.Steps.{HaveLen, olds_of}
use Rattle.record_log.proofs.Totals.{kept_all, kept_rest}
use Rattle.record_log.proofs.keeping.drop_oldest.Goals as goal

pub loop-lists-preserved : goal.loop-lists-preserved
loop-lists-preserved c =
    let items : List OldBytes = c.loop-lists.lists.items in
    let rest : c.remove.new.self.items ≡ drop 1 items = c.remove.ensures.by_index.2 in
    let some : 0 < length items = omega (arith, c.are_within.ensures.some c.loop-lists-test.true, ap length c.deref.ensures.value) in
    let parts : items ≡ c.remove.result ∷ drop 1 items = drop_more items 0 c.remove.result some ∙ ap (λ (o : OldBytes). o ∷ drop 1 items) (sym c.remove.ensures.value) in
    record {
      each = λ len h. subst (HaveLen len) (sym rest) (All-drop (λ (o : OldBytes). o.record_len ≡ len) 1 items (c.loop-lists.invariant.each len h));
      kept = λ len h.
          let over : are_within len c.args.most (olds_of items) ≡ false =
          ap (λ (l : List OldBytes). are_within len c.args.most (olds_of l)) (sym c.deref.ensures.value)
          ∙ sym (c.are_within.ensures.value len (subst (HaveLen len) (sym c.deref.ensures.value) (c.loop-lists.invariant.each len h)))
          ∙ c.loop-lists-test.true in
          kept_rest len c.args.most items c.remove.new.self.items c.remove.result
          (parts ∙ ap (λ (l : List OldBytes). c.remove.result ∷ l) (sym rest)) over
          ∙ c.loop-lists.invariant.kept len h;
      capacity = c.remove.ensures.capacity ∙ c.loop-lists.invariant.capacity;
    }

pub returns-clause-kept : goal.returns-clause-kept
returns-clause-kept c = λ len h.
    let items : List OldBytes = c.loop-lists.lists.items in
    let each : HaveLen len items = c.loop-lists.invariant.each len h in
    let within : are_within len c.args.most (olds_of items) ≡ true =
    ap (λ (l : List OldBytes). are_within len c.args.most (olds_of l)) (sym c.deref.ensures.value)
    ∙ sym (c.are_within.ensures.value len (subst (HaveLen len) (sym c.deref.ensures.value) each))
    ∙ c.loop-lists-test.false in
    record {
      lists = sym (kept_all len c.args.most (olds_of items) within) ∙ c.loop-lists.invariant.kept len h;
      within = within;
      each = each;
    }

use Rattle.std.proofs.Common.{◌≡◌, ℕ, List, [], ◌∷◌, ◌++◌, arith, ap, ◌∙◌, sym, subst}
use Rattle.std.proofs.lemmas.List.{map_push}
use Rattle.std.proofs.lemmas.List.Elements.{All-push}
use Rattle.record_log.specs.OldRecords.{OldBytes, OldRecord}
use Rattle.record_log.specs.Logs.{KeptLog, kept_within}
use Rattle.record_log.specs.Steps.{AreKept, HaveLen, olds_of}
use Rattle.record_log.proofs.log.RecordLog.push.Goals as goal

-- what is kept of the lists with the newest one
kept : (c : goal.After-drop_oldest) →
    AreKept c.self.inside.record_len c.self.inside.most c.push_reserved.new.self.items c.drop_oldest.new.lists.items
kept c =
    let len : ℕ = c.self.inside.record_len in
    let same : c.args.newest.record_len ≡ len = c.requires ∙ ap (λ (v : KeptLog). v.record_len) (sym c.self.view_is) in
    c.drop_oldest.ensures.kept len (subst (HaveLen len) (sym c.push_reserved.ensures.items)
    (All-push (λ (o : OldBytes). o.record_len ≡ len) c.self.inside.lists.items c.args.newest c.self.invariant.1 same))

pub invariant_of-self : goal.invariant_of-self
invariant_of-self c =
    (c.self.invariant.0, (kept c).each, (kept c).within, omega (arith, c.self.invariant.3, c.push_reserved.ensures.capacity, c.drop_oldest.ensures.capacity))

pub returns : goal.returns
returns c =
    let len : ℕ = c.self.inside.record_len in
    let most : ℕ = c.self.inside.most in
    let log : List (List OldRecord) → KeptLog = λ lists. record { record_len = len; most = most; lists = lists } in
    let all : olds_of c.push_reserved.new.self.items ≡ olds_of c.self.inside.lists.items ++ c.args.newest.records ∷ [] =
    ap olds_of c.push_reserved.ensures.items ∙ map_push (λ (o : OldBytes). o.records) c.self.inside.lists.items c.args.newest in
    ap log ((kept c).lists ∙ ap (kept_within len most) all)
    ∙ ap (λ (v : KeptLog). record v { lists = kept_within v.record_len v.most (v.lists ++ c.args.newest.records ∷ []) }) c.self.view_is

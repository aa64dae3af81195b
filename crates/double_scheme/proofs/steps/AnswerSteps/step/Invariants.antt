use Rattle.std.proofs.Common.{◌≡◌, ◌↔◌, ◌⊎◌, ◌<◌, IsTrue}
use Rattle.double_scheme.specs.Steps.{IsMadeSoFar, IsWholeAt, rows_made}
use Rattle.double_scheme.proofs.steps.AnswerSteps.step.Given as goal

abbrev pub decreases-loop-left : goal.decreases-loop-left
decreases-loop-left g l = l.left

abbrev pub invariant-loop-left : goal.invariant-loop-left
invariant-loop-left g l = record {
  so_far : IsMadeSoFar l.self.layout (g.S.DigitStore.digits l.digits) (g.S.DigitStore.digits l.server_hint) l.a2 l.query l.self;
  layout : l.self.layout ≡ l.initial.self.layout;
  whole : IsTrue l.is_whole ↔ IsWholeAt l.self.layout l.self.stage;
  forward : ((l.left ≡ 33554432) × (l.self.stage ≡ l.initial.self.stage))
      ⊎ (rows_made l.initial.self.layout (g.S.DigitStore.digits l.server_hint).rows l.initial.self.stage
      < rows_made l.initial.self.layout (g.S.DigitStore.digits l.server_hint).rows l.self.stage);
}

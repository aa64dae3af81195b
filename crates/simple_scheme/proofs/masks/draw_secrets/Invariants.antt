use Rattle.simple_scheme.specs.Masks.{secrets_of}
use Rattle.simple_scheme.proofs.Rows.{HasRowsOf}
use Rattle.simple_scheme.proofs.masks.draw_secrets.Given as goal

abbrev pub invariant-loop-c : goal.invariant-loop-c
invariant-loop-c l = HasRowsOf (secrets_of l.seed l.first l.fn.secrets.rows l.fn.secrets.cols) l.c l.secrets

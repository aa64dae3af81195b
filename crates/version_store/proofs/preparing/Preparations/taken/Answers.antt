use Rattle.std.proofs.Common.{inl, inr}
use Rattle.version_store.proofs.preparing.Preparations.taken.Goals as goal

pub returns-clause-left : goal.returns-clause-left
returns-clause-left c e h = record {
  first = c.taken_from-first.ensures.left e h.first;
  second = c.taken_from-second.ensures.left e h.second;
  third = c.taken_from-third.ensures.left e h.third;
  fourth = c.taken_from-fourth.ensures.left e h.fourth;
}

pub returns-clause-answer : goal.returns-clause-answer
returns-clause-answer c e h =
    let first = c.taken_from-first.ensures.answer e h.first tt in
    let second = c.taken_from-second.ensures.answer e h.second first in
    let third = c.taken_from-third.ensures.answer e h.third second in
    c.taken_from-fourth.ensures.answer e h.fourth third

pub returns-clause-given : goal.returns-clause-given
returns-clause-given c (inl whole) =
    c.taken_from-fourth.ensures.kept (c.taken_from-third.ensures.kept (c.taken_from-second.ensures.kept (c.taken_from-first.ensures.given whole)))
returns-clause-given c (inr (inl whole)) =
    c.taken_from-fourth.ensures.kept (c.taken_from-third.ensures.kept (c.taken_from-second.ensures.given whole))
returns-clause-given c (inr (inr (inl whole))) = c.taken_from-fourth.ensures.kept (c.taken_from-third.ensures.given whole)
returns-clause-given c (inr (inr (inr whole))) = c.taken_from-fourth.ensures.given whole

-- What a world keeps.
use Rattle.pir_world.specs.declared.world.World.TheInside.{Inside}
use Rattle.pir_world.specs.Runs.{State}
use Rattle.pir_world.specs.Worlds.{WorldSeen, IsRunOf}

-- what callers see of it
abbrev pub shown : {K : Type 0} → Inside K → WorldSeen
shown w = record {
  header = w.header;
  records = w.records.items;
  seeds = w.seeds.items;
  core = w.server;
  ends = w.ends.items;
  steps = w.steps.items;
  outcomes =
      w.outcomes.items;
  broken = w.broken;
}

-- a run of its steps leads to its outcomes and, until memory was refused, to all that it is
abbrev pub IsKeptRun : {K : Type 0} → Inside K → Type 0
IsKeptRun w = (s : State) × IsRunOf (shown w) s

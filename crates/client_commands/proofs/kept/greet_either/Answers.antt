use Rattle.std.proofs.Common.{◌≡◌, ◌≢◌, ◌++◌, Result, Err, true, false, replicate, refl, subst, inl, inr, rules}
use Rattle.std.proofs.KnownBytes.{Consumes-trans, Appends-trans}
use Rattle.client_core.specs.declared.state.Event.{Event}
use Rattle.client_core.specs.Calls.{Hello}
use Rattle.client_core.specs.Feeding.{Client}
use Rattle.client_commands.specs.declared.fault.CommandError.{CommandError}
use Rattle.client_commands.specs.declared.fault.CommandError.TheVariants.{Refused}
use Rattle.client_commands.specs.Kept.{speaking}
use Rattle.client_commands.specs.Transcripts.{ComesTo}
use Rattle.client_commands.proofs.kept.greet_either.Goals as goal

pub returns-then-not-is_another_profile-clause-transcript : goal.returns-then-not-is_another_profile-clause-transcript
returns-then-not-is_another_profile-clause-transcript g c =
    let t = c.greet-greeted.ensures.transcript in
    let spoken : c.speak.new.self ≡ speaking false c.args.client.now =
    λ i. record { state = c.speak.ensures.state i; reader = c.speak.ensures.reader i } in
    let other : c.greet-greeted.result ≢ Err (Refused 3) = search rules in (
      t.0,
      t.1,
      t.2,
      t.3,
      inl (
        subst (λ (x : Client). ComesTo x (Hello (replicate 32 0)) c.greet-greeted.result t.0 t.1 (g.R.Read.remaining c.greet-greeted.new.reader)
            c.greet-greeted.new.client) spoken t.4,
        other,
      ),
    )

pub returns-clause-transcript : goal.returns-clause-transcript
returns-clause-transcript g c =
    let t = c.greet-greeted.ensures.transcript in
    let u = c.greet.ensures.transcript in
    let spoken : c.speak.new.self ≡ speaking false c.args.client.now =
    λ i. record { state = c.speak.ensures.state i; reader = c.speak.ensures.reader i } in
    let again : c.speak-2.new.self ≡ speaking true c.greet-greeted.new.client =
    λ i. record { state = c.speak-2.ensures.state i; reader = c.speak-2.ensures.reader i } in
    let refused : c.greet-greeted.result ≡ Err (Refused 3) = search rules in
    let first : ComesTo (speaking false c.args.client.now) (Hello (replicate 32 0)) c.greet-greeted.result t.0 t.1
    (g.R.Read.remaining c.greet-greeted.new.reader) c.greet-greeted.new.client =
    subst (λ (x : Client). ComesTo x (Hello (replicate 32 0)) c.greet-greeted.result t.0 t.1 (g.R.Read.remaining c.greet-greeted.new.reader)
    c.greet-greeted.new.client) spoken t.4 in (
      t.0 ++ u.0,
      t.1 ++ u.1,
      Consumes-trans _ _ _ _ _ t.2 u.2,
      Appends-trans _ _ _ _ _ t.3 u.3,
      inr (record {
        refused = c.greet-greeted.new.client;
        read_before = t.0;
        read_after = u.0;
        out_before = t.1;
        out_after = u.1;
        between = g.R.Read.remaining c.greet-greeted.new.reader;
        first = subst (λ (r : Result Event CommandError). ComesTo (speaking false c.args.client.now) (Hello (replicate 32 0)) r t.0 t.1
            (g.R.Read.remaining c.greet-greeted.new.reader) c.greet-greeted.new.client) refused first;
        second = subst (λ (x : Client). ComesTo x (Hello (replicate 32 0)) c.greet.result u.0 u.1 (g.R.Read.remaining c.greet.new.reader)
            c.greet.new.client) again u.4;
        read_is = refl;
        out_is = refl;
      }),
    )

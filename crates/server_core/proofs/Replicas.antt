-- Servers of equal histories reply alike.
use Rattle.std.proofs.Common.{◌≡◌, ◌≢◌, ℕ, [], ◌∷◌, refl, sym, subst, ◌∙◌, inl, inr}
use Rattle.std.proofs.lemmas.Bool.{cases_eq}
use Rattle.version_store.specs.Histories.{History}
use Rattle.server_core.specs.Laws.{IsAlike, PiecesAgree, ServesStreams, ReplicasReplyAlike}
use Rattle.server_core.specs.Sessions.{Session}

-- the sessions after a piece of one of them, of which that one and all others were alike before
alike_between : (id : ℕ) (before before2 between between2 : ℕ → Session) → ((i : ℕ) → IsAlike (before i) (before2 i)) → IsAlike (between id) (between2 id) →
    ((other : ℕ) → other ≢ id → between other ≡ before other) → ((other : ℕ) → other ≢ id → between2 other ≡ before2 other)
    → (i : ℕ) → IsAlike (between i) (between2 i)
alike_between id before before2 between between2 like own stay stay2 i = elim (cases_eq i id) [
  | inl e ↦ subst (λ k. IsAlike (between k) (between2 k)) (sym e) own
  | inr ne ↦ subst (λ s. IsAlike s (between2 i)) (sym (stay i ne)) (subst (λ s. IsAlike (before i) s) (sym (stay2 i ne)) (like i))
]

pub reply_alike : PiecesAgree → ReplicasReplyAlike
reply_alike agree x h [] before before2 end end2 after after2 replies replies2 like f g =
    let alike : (i : ℕ) → IsAlike (after i) (after2 i) = rw (f.1, g.1) like in
    (f.2 ∙ sym g.2, f.0 ∙ sym g.0, alike)
reply_alike agree x h (fed ∷ later) before before2 end end2 after after2 replies replies2 like f g =
    let one = agree x h (before fed.0) (before2 fed.0) fed.1 f.0 g.0 f.1 g.1 (f.2 fed.0) (g.2 fed.0) f.3 g.3 (like fed.0) f.5 g.5 f.6 g.6 in
    let between = alike_between fed.0 before before2 f.2 g.2 like one.1 f.7 g.7 in
    let rest = subst (λ (k : History). ServesStreams x k g.2 later end2 after2 g.4) (sym one.0) g.9 in
    let others = reply_alike agree x f.1 later f.2 g.2 end end2 after after2 f.4 g.4 between f.9 rest in
    (rw (f.8, g.8, one.2, others.0) refl, others.1, others.2)

-- Parts of deliveries, by plain values.
use Rattle.std.proofs.Common.{◌≡◌, ◌≢◌, ◌<◌, ◌≤◌, ◌+◌, zero, suc, map, arith, inl, inr, ◌++◌, ℕ, List, [], ◌∷◌, take, drop, min, length, Bool, false, Result, Ok, Err, Some, None, refl, sym, ap, subst, ◌∙◌}
use Rattle.std.specs.Prelude.{slice_index_or}
use Rattle.std.specs.Result.{OnOk, is_err}
use Rattle.std.proofs.lemmas.Bool.{cases_eq}
use Rattle.std.proofs.lemmas.List.{map-append}
use Rattle.version_store.specs.Histories.{StoreState, History}
use Rattle.server_core.specs.Cores.{Core, session_of}
use Rattle.server_core.specs.Serving.{Setting, setting_of}
use Rattle.server_core.specs.Sessions.{Session, FeedsStore, new_session}
use Rattle.pir_world.specs.declared.steps.Step.{Step}
use Rattle.pir_world.specs.declared.steps.Outcome.{Outcome}
use Rattle.pir_world.specs.Runs.{State, StepsTo, HasBytes, state_after}
use Rattle.pir_world.specs.Sides.{Side, Implements, ServesDelivery, fresh_side}
use Rattle.pir_world.proofs.Keeping.{stepped}

-- what holds of a good answer
pub when_ok : {A E : Type 0} (r : Result A E) (P : Type 0) → is_err r ≡ false → OnOk r P → P
when_ok (Ok x) P e p = p
when_ok (Err x) P e p = absurd cc

pub serves_delivery : (most n : ℕ) (h : History) (before after : StoreState) (old new : Side) (session then_ : Session) (piece start replies : List ℕ) →
    n ≡ min most (length old.up) → piece ≡ old.up → start ≡ []
    → FeedsStore (setting_of before) h session (take n piece) (Ok tt) after then_ start replies → new.client ≡ old.client → new.up ≡ drop n old.up →
    new.down ≡ old.down ++ replies → ServesDelivery most h before old session after new then_
serves_delivery most n h before after old new session then_ piece start replies size same empty f client up down = record {
  replies = replies;
  fed = subst (λ (b : List ℕ). FeedsStore (setting_of before) h session b (Ok tt) after then_ [] replies) (ap (λ (m : ℕ). take m piece) size
      ∙ ap (λ (b : List ℕ). take (min most (length old.up)) b) same)
      (subst (λ (b : List ℕ). FeedsStore (setting_of before) h session (take n piece) (Ok tt) after then_ b replies) empty f);
  client = client;
  up = up ∙ ap (λ (m : ℕ). drop m old.up) size;
  down = down;
}

pub none_some : {A : Type 0} {x : A} → None ≡ Some x → ⊥
none_some e = cc

pub some_one : {A : Type 0} {x y : A} → Some x ≡ Some y → x ≡ y
some_one e = cc

-- what follows of a good answer
pub on_map : {A E : Type 0} (r : Result A E) (P Q : Type 0) → (P → Q) → OnOk r P → OnOk r Q
on_map (Ok x) P Q f p = f p
on_map (Err x) P Q f p = tt

-- a step that was made
pub made_step : (x : Setting) (short : Bool) (s : State) (given step : Step) (core : Core) (ends : List Side) (os : List Outcome) → given ≡ step →
    HasBytes step → Implements x core ends os (state_after x short s step)
    → (t : State) × StepsTo x s given t × Implements x core ends os t
made_step x short s given step core ends os e fits p =
    (state_after x short s step, subst (λ (y : Step). StepsTo x s y (state_after x short s step)) (sym e) (stepped x short s step fits), p)

-- one client more, and its session
take-next : (xs : List (List ℕ)) (i : ℕ) → i < length xs → take i xs ++ slice_index_or xs i [] ∷ [] ≡ take (suc i) xs
take-next [] i lt = absurd (omega arith)
take-next (y ∷ ys) zero lt = refl
take-next (y ∷ ys) (suc i) lt = ap (λ (s : List (List ℕ)). y ∷ s) (take-next ys i (omega arith))

pub ends_more : (wide : Bool) (seeds : List (List ℕ)) (ends more : List Side) (i : ℕ) (e : Side) → i < length seeds → ends ≡ map (fresh_side wide) (take i seeds) →
    more ≡ ends ++ e ∷ [] → e ≡ fresh_side wide (slice_index_or seeds i []) → more ≡ map (fresh_side wide) (take (i + 1) seeds)
ends_more wide seeds ends more i e lt a b d =
    let next : suc i ≡ i + 1 = omega arith in
    b ∙ rw (a, d) (sym (map-append (fresh_side wide) (take i seeds) (slice_index_or seeds i [] ∷ [])))
    ∙ ap (λ (s : List (List ℕ)). map (fresh_side wide) s) (take-next seeds i lt) ∙ ap (λ (n : ℕ). map (fresh_side wide) (take n seeds)) next

pub sessions_more : (old new : List (ℕ × Session)) (i : ℕ) → ((j : ℕ) → j < i → session_of old j ≡ Some new_session) →
    ((j : ℕ) → i ≤ j → session_of old j ≡ None) → session_of new i ≡ Some new_session
    → ((j : ℕ) → j ≢ i → session_of new j ≡ session_of old j) → ((j : ℕ) → j < i + 1 → session_of new j ≡ Some new_session)
    × ((j : ℕ) → i + 1 ≤ j → session_of new j ≡ None)
sessions_more old new i low high at others = (
  (λ j lt. elim (cases_eq j i) [ inl e ↦ rw e at | inr ne ↦ others j ne ∙ low j (omega (arith, lt, ne)) ]),
  (λ j le. others j (λ e. omega (arith, le, e)) ∙ high j (omega (arith, le))),
)

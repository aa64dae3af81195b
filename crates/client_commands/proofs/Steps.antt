-- The steps of runs over a folder: by induction on them, from any runs.
use Rattle.std.proofs.Common.{◌≡◌, ◌≤◌, ◌+◌, ◌++◌, ℕ, zero, suc, Bool, true, false, List, [], ◌∷◌, map, Option, Some, None, refl, sym, ap, subst, ◌∙◌, inl, inr, arith, append_assoc}
use Rattle.std.specs.Prelude.{◌⊎◌, slice_get, if◌then◌else◌}
use Rattle.std.specs.List.{AllByRecursion}
use Rattle.client_core.specs.declared.state.ClientState.{ClientState}
use Rattle.client_core.specs.Calls.{Hello, Sync, Ask, Edit, Append, Publish}
use Rattle.client_core.specs.Laws.{Happening, Accepted, TurnedDown, Lacking, Replied, Failing, after, numbers_at}
use Rattle.client_commands.specs.Runs.{RunOfClient, run_of, RunsOverFolder, runs_over_folder, StepOfRun, Begins, Speaks, Happens, TakesUp, Ends, Replaces, run_after, run_holding, run_speaking, run_ended, with_changed, runs_after, runs_over_folder_after, RunRetrieval, asked_by, asked_at, retrievals, drawn_at, draws, HaveOneSeed, MeetByDraws, OnlyEqualDrawsMeet, without_replacements, FoldersChangeNothing}
use Rattle.client_commands.proofs.Seeds.{GoesOn, same_client, goes_on}

-- ---- lists

all_append : {A : Type 0} (P : A → Type 0) (xs ys : List A) → AllByRecursion P xs → AllByRecursion P ys → AllByRecursion P (xs ++ ys)
all_append P [] ys p q = q
all_append P (x ∷ xs) ys p q = (p.0, all_append P xs ys p.1 q)

all_of_both : {A : Type 0} (P Q R : A → Type 0) → ((x : A) → P x → Q x → R x) → (xs : List A) → AllByRecursion P xs → AllByRecursion Q xs → AllByRecursion R xs
all_of_both P Q R f [] p q = tt
all_of_both P Q R f (x ∷ xs) p q = (f x p.0 q.0, all_of_both P Q R f xs p.1 q.1)

all_of : {A : Type 0} (P R : A → Type 0) → ((x : A) → P x → R x) → (xs : List A) → AllByRecursion P xs → AllByRecursion R xs
all_of P R f xs p = all_of_both P P R (λ x h same. f x h) xs p p

same_element : {A : Type 0} (x y : A) → Some x ≡ Some y → x ≡ y
same_element {A = A} x y e = ap (λ o. or_else o) e
  where
    or_else : Option A → A
    or_else None = x
    or_else (Some z) = z

get_before : (runs others : List RunOfClient) (i : ℕ) (run : RunOfClient) → slice_get runs i ≡ Some run → slice_get (runs ++ others) i ≡ Some run
get_before [] others i run e = absurd cc
get_before (x ∷ runs) others zero run e = e
get_before (x ∷ runs) others (suc i) run e = get_before runs others i run e

-- ---- a step

-- the runs go on: each has its seed, and a next number that is no smaller
abbrev GoOn : List RunOfClient → List RunOfClient → Type 0
GoOn runs later = (i : ℕ) (x : RunOfClient) → slice_get runs i ≡ Some x → (y : RunOfClient) × (slice_get later i ≡ Some y) × GoesOn x.client y.client

change_goes_on : (runs : List RunOfClient) (i : ℕ) (change : RunOfClient → RunOfClient) → ((x : RunOfClient) → GoesOn x.client (change x).client) → GoOn runs (with_changed runs i change)
unfolding with_changed
change_goes_on [] i change g j x e = absurd cc
change_goes_on (run ∷ runs) zero change g zero x e =
    (change run, refl, subst (λ (z : RunOfClient). GoesOn z.client (change run).client) (same_element run x e) (g run))
change_goes_on (run ∷ runs) zero change g (suc j) x e = (x, e, same_client x.client)
change_goes_on (run ∷ runs) (suc i) change g zero x e = (x, e, same_client x.client)
change_goes_on (run ∷ runs) (suc i) change g (suc j) x e = change_goes_on runs i change g j x e

run_goes_on : (h : Happening) (x : RunOfClient) → GoesOn x.client (run_after h x).client
run_goes_on h x = by x.ended
  where
    by : (b : Bool) → GoesOn x.client (if b then x else record x { client = after x.client h }).client
    by true = same_client x.client
    by false = goes_on x.client h

runs_go_on : (runs : List RunOfClient) (s : StepOfRun) → GoOn runs (runs_after runs s)
runs_go_on runs (Begins draw) i x e = (x, get_before runs (run_of draw ∷ []) i x e, same_client x.client)
runs_go_on runs (Speaks i wide) j x e = change_goes_on runs i (run_speaking wide) (λ y. record { seed = refl; number = omega arith }) j x e
runs_go_on runs (Happens i h) j x e = change_goes_on runs i (run_after h) (run_goes_on h) j x e
runs_go_on runs (TakesUp i hint) j x e = change_goes_on runs i (run_holding hint) (λ y. record { seed = refl; number = omega arith }) j x e
runs_go_on runs (Ends i) j x e = change_goes_on runs i run_ended (λ y. same_client y.client) j x e
runs_go_on runs (Replaces folder) i x e = (x, e, same_client x.client)

seed_of : RunOfClient → List ℕ
seed_of run = run.client.seed

change_keeps_seeds : (runs : List RunOfClient) (i : ℕ) (change : RunOfClient → RunOfClient) → ((x : RunOfClient) → (change x).client.seed ≡ x.client.seed) →
    map seed_of (with_changed runs i change) ≡ map seed_of runs
unfolding with_changed seed_of
change_keeps_seeds [] i change same = refl
change_keeps_seeds (x ∷ runs) zero change same = ap (λ (s : List ℕ). s ∷ map seed_of runs) (same x)
change_keeps_seeds (x ∷ runs) (suc i) change same = ap (λ (ss : List (List ℕ)). x.client.seed ∷ ss) (change_keeps_seeds runs i change same)

begun_seeds : (runs : List RunOfClient) (draw : List ℕ) → map seed_of (runs ++ (run_of draw ∷ [])) ≡ map seed_of runs ++ (draw ∷ [])
unfolding seed_of
begun_seeds [] draw = refl
begun_seeds (x ∷ runs) draw = ap (λ (ss : List (List ℕ)). x.client.seed ∷ ss) (begun_seeds runs draw)

no_more : (ss : List (List ℕ)) → ss ≡ ss ++ []
no_more [] = refl
no_more (s ∷ ss) = ap (λ (rest : List (List ℕ)). s ∷ rest) (no_more ss)

-- the seeds of the runs after a step are those before it, and what it draws
seeds_after : (runs : List RunOfClient) (s : StepOfRun) → map seed_of (runs_after runs s) ≡ map seed_of runs ++ drawn_at s
seeds_after runs (Begins draw) = begun_seeds runs draw
seeds_after runs (Speaks i wide) = change_keeps_seeds runs i (run_speaking wide) (λ x. refl) ∙ no_more (map seed_of runs)
seeds_after runs (Happens i h) = change_keeps_seeds runs i (run_after h) (λ x. (run_goes_on h x).seed) ∙ no_more (map seed_of runs)
seeds_after runs (TakesUp i hint) = change_keeps_seeds runs i (run_holding hint) (λ x. refl) ∙ no_more (map seed_of runs)
seeds_after runs (Ends i) = change_keeps_seeds runs i run_ended (λ x. refl) ∙ no_more (map seed_of runs)
seeds_after runs (Replaces folder) = no_more (map seed_of runs)

seed_at : (runs : List RunOfClient) (others : List (List ℕ)) (i : ℕ) (x : RunOfClient) → slice_get runs i ≡ Some x → slice_get (map seed_of runs ++ others) i ≡ Some x.client.seed
unfolding seed_of
seed_at [] others i x e = absurd cc
seed_at (run ∷ runs) others zero x e = ap (λ (z : RunOfClient). Some z.client.seed) (same_element run x e)
seed_at (run ∷ runs) others (suc i) x e = seed_at runs others i x e

-- ---- what a step asks for

changed_at : (runs : List RunOfClient) (i : ℕ) (change : RunOfClient → RunOfClient) (x : RunOfClient) → slice_get runs i ≡ Some x → slice_get (with_changed runs i change) i ≡ Some (change x)
unfolding with_changed
changed_at [] i change x e = absurd cc
changed_at (run ∷ runs) zero change x e = ap (λ (z : RunOfClient). Some (change z)) (same_element run x e)
changed_at (run ∷ runs) (suc i) change x e = changed_at runs i change x e

-- one retrieval is asked for, with the seed and the number of its run, whose next number is one
-- more then
record AsksOne (w : RunsOverFolder) (s : StepOfRun) : Type 0 where
  asked : RunRetrieval
  run : RunOfClient
  later : RunOfClient
  only : asked_at w s ≡ asked ∷ []
  here : slice_get w.runs asked.run ≡ Some run
  seed : run.client.seed ≡ asked.seed
  number : run.client.number ≡ asked.number
  there : slice_get (runs_after w.runs s) asked.run ≡ Some later
  next : later.client.number ≡ asked.number + 1

abbrev AsksOneAtMost : RunsOverFolder → StepOfRun → Type 0
AsksOneAtMost w s = (asked_at w s ≡ []) ⊎ AsksOne w s

abbrev nothing : List RunRetrieval
nothing = []

quiet : (i : ℕ) (h : Happening) → ((c : ClientState) → numbers_at c h ≡ []) → (o : Option RunOfClient) → asked_by i h o ≡ []
quiet i h none None = refl
quiet i h none (Some run) = by run.ended
  where
    by : (b : Bool) → (if b then [] else map (λ n. record { run = i; seed = run.client.seed; number = n }) (numbers_at run.client h)) ≡ nothing
    by true = refl
    by false = ap (λ (ns : List ℕ). map (λ n. record { run = i; seed = run.client.seed; number = n }) ns) (none run.client)

-- what a run asks for that has not ended
one_asked : (w : RunsOverFolder) (i k : ℕ) (run : RunOfClient) → slice_get w.runs i ≡ Some run → run.ended ≡ false → AsksOne w (Happens i (Accepted (Ask k)))
one_asked w i k run e goes = record {
  asked = record { run = i; seed = run.client.seed; number = run.client.number };
  run = run;
  later = run_after (Accepted (Ask k)) run;
  only = ap (asked_by i (Accepted (Ask k))) e
      ∙ ap (λ (b : Bool). if b then [] else (record { run = i; seed = run.client.seed; number = run.client.number } ∷ nothing)) goes;
  here = e;
  seed = refl;
  number = refl;
  there = changed_at w.runs i (run_after (Accepted (Ask k))) run e;
  next = ap (λ (b : Bool). (if b then run else record run { client = after run.client (Accepted (Ask k)) }).client.number) goes;
}

ask_at_most : (w : RunsOverFolder) (i k : ℕ) (o : Option RunOfClient) → slice_get w.runs i ≡ o → AsksOneAtMost w (Happens i (Accepted (Ask k)))
ask_at_most w i k None e = inl (ap (asked_by i (Accepted (Ask k))) e)
ask_at_most w i k (Some run) e = by run.ended refl
  where
    by : (b : Bool) → run.ended ≡ b → AsksOneAtMost w (Happens i (Accepted (Ask k)))
    by true over = inl (ap (asked_by i (Accepted (Ask k))) e
        ∙ ap (λ (b : Bool). if b then [] else (record { run = i; seed = run.client.seed; number = run.client.number } ∷ nothing)) over)
    by false goes = inr (one_asked w i k run e goes)

happening_at_most : (w : RunsOverFolder) (i : ℕ) (h : Happening) → AsksOneAtMost w (Happens i h)
happening_at_most w i (Accepted (Ask k)) = ask_at_most w i k (slice_get w.runs i) refl
happening_at_most w i (Accepted (Hello key)) = inl (quiet i (Accepted (Hello key)) (λ c. refl) (slice_get w.runs i))
happening_at_most w i (Accepted (Sync scheme)) = inl (quiet i (Accepted (Sync scheme)) (λ c. refl) (slice_get w.runs i))
happening_at_most w i (Accepted (Edit k bytes)) = inl (quiet i (Accepted (Edit k bytes)) (λ c. refl) (slice_get w.runs i))
happening_at_most w i (Accepted (Append bytes)) = inl (quiet i (Accepted (Append bytes)) (λ c. refl) (slice_get w.runs i))
happening_at_most w i (Accepted Publish) = inl (quiet i (Accepted Publish) (λ c. refl) (slice_get w.runs i))
happening_at_most w i (TurnedDown want) = inl (quiet i (TurnedDown want) (λ c. refl) (slice_get w.runs i))
happening_at_most w i (Lacking want) = inl (quiet i (Lacking want) (λ c. refl) (slice_get w.runs i))
happening_at_most w i (Replied reply) = inl (quiet i (Replied reply) (λ c. refl) (slice_get w.runs i))
happening_at_most w i Failing = inl (quiet i Failing (λ c. refl) (slice_get w.runs i))

at_most : (w : RunsOverFolder) (s : StepOfRun) → AsksOneAtMost w s
at_most w (Happens i h) = happening_at_most w i h
at_most w (Begins draw) = inl refl
at_most w (Speaks i wide) = inl refl
at_most w (TakesUp i hint) = inl refl
at_most w (Ends i) = inl refl
at_most w (Replaces folder) = inl refl

-- ---- what steps ask for

-- a retrieval has the seed of its run, and no number that this has passed
abbrev IsLater : List RunOfClient → RunRetrieval → Type 0
IsLater runs q = (x : RunOfClient) → slice_get runs q.run ≡ Some x → (x.client.seed ≡ q.seed) × (x.client.number ≤ q.number)

later_before : (runs later : List RunOfClient) → GoOn runs later → (q : RunRetrieval) → IsLater later q → IsLater runs q
later_before runs later go q h x e =
    let g = go q.run x e in
    let l = h g.0 g.1 in
    (sym g.2.seed ∙ l.0, omega (arith, g.2.number, l.1))

asked_later : (w : RunsOverFolder) (s : StepOfRun) → AsksOneAtMost w s → AllByRecursion (IsLater w.runs) (asked_at w s)
asked_later w s (inl none) = subst (AllByRecursion (IsLater w.runs)) (sym none) tt
asked_later w s (inr a) =
    let at : IsLater w.runs a.asked = λ x e.
    let same : a.run ≡ x = same_element a.run x (sym a.here ∙ e) in
    let seed : x.client.seed ≡ a.asked.seed = ap (λ (z : RunOfClient). z.client.seed) (sym same) ∙ a.seed in
    let number : x.client.number ≡ a.asked.number = ap (λ (z : RunOfClient). z.client.number) (sym same) ∙ a.number in
    (seed, omega (arith, number)) in
    subst (AllByRecursion (IsLater w.runs)) (sym a.only) (at, tt)

all_later : (w : RunsOverFolder) (steps : List StepOfRun) → AllByRecursion (IsLater w.runs) (retrievals w steps)
unfolding retrievals
all_later w [] = tt
all_later w (s ∷ ss) =
    all_append (IsLater w.runs) (asked_at w s) (retrievals (runs_over_folder_after w s) ss) (asked_later w s (at_most w s))
    (all_of (IsLater (runs_after w.runs s)) (IsLater w.runs) (later_before w.runs (runs_after w.runs s) (runs_go_on w.runs s)) (retrievals (runs_over_folder_after w s) ss)
    (all_later (runs_over_folder_after w s) ss))

-- the seed of a retrieval is that of its run among these
abbrev IsSeedAmong : List (List ℕ) → RunRetrieval → Type 0
IsSeedAmong all q = slice_get all q.run ≡ Some q.seed

asked_among : (all others : List (List ℕ)) (w : RunsOverFolder) (s : StepOfRun) → all ≡ map seed_of w.runs ++ others → AsksOneAtMost w s →
    AllByRecursion (IsSeedAmong all) (asked_at w s)
asked_among all others w s is (inl none) = subst (AllByRecursion (IsSeedAmong all)) (sym none) tt
asked_among all others w s is (inr a) =
    let at : IsSeedAmong all a.asked =
    ap (λ (ss : List (List ℕ)). slice_get ss a.asked.run) is ∙ seed_at w.runs others a.asked.run a.run a.here ∙ ap (λ (z : List ℕ). Some z) a.seed in
    subst (AllByRecursion (IsSeedAmong all)) (sym a.only) (at, tt)

-- the seeds and the draws that are yet to come stay the same
draws_after : (all : List (List ℕ)) (w : RunsOverFolder) (s : StepOfRun) (ss : List StepOfRun) → all ≡ map seed_of w.runs ++ draws (s ∷ ss) →
    all ≡ map seed_of (runs_after w.runs s) ++ draws ss
unfolding draws
draws_after all w s ss is =
    is ∙ sym (append_assoc (map seed_of w.runs) (drawn_at s) (draws ss)) ∙ ap (λ (x : List (List ℕ)). x ++ draws ss) (sym (seeds_after w.runs s))

all_among : (all : List (List ℕ)) (w : RunsOverFolder) (steps : List StepOfRun) → all ≡ map seed_of w.runs ++ draws steps →
    AllByRecursion (IsSeedAmong all) (retrievals w steps)
unfolding retrievals
all_among all w [] is = tt
all_among all w (s ∷ ss) is =
    all_append (IsSeedAmong all) (asked_at w s) (retrievals (runs_over_folder_after w s) ss) (asked_among all (draws (s ∷ ss)) w s is (at_most w s))
    (all_among all (runs_over_folder_after w s) ss (draws_after all w s ss is))

-- ---- each retrieval, beside each later one

abbrev MeetsByDraws : List (List ℕ) → RunRetrieval → RunRetrieval → Type 0
MeetsByDraws all one other = one.seed ≡ other.seed → one.number ≡ other.number → HaveOneSeed all one.seed one other

-- a later retrieval of the same run has a larger number
apart : (all : List (List ℕ)) (w : RunsOverFolder) (s : StepOfRun) (a : AsksOne w s) → IsSeedAmong all a.asked →
    (other : RunRetrieval) → IsLater (runs_after w.runs s) other → IsSeedAmong all other → MeetsByDraws all a.asked other
apart all w s a first other later second seeds numbers = record {
  runs = λ same.
      let l = later a.later (ap (λ (i : ℕ). slice_get (runs_after w.runs s) i) (sym same) ∙ a.there) in
      absurd (omega (arith, l.1, a.next, numbers));
  first = first;
  second = second ∙ ap (λ (z : List ℕ). Some z) (sym seeds);
}

step_meets : (all : List (List ℕ)) (w : RunsOverFolder) (s : StepOfRun) (rest : List RunRetrieval) → AsksOneAtMost w s → AllByRecursion (IsSeedAmong all) (asked_at w s) →
    AllByRecursion (IsLater (runs_after w.runs s)) rest → AllByRecursion (IsSeedAmong all) rest → MeetByDraws all rest → MeetByDraws all (asked_at w s ++ rest)
unfolding MeetByDraws
step_meets all w s rest (inl none) among later seeds meets =
    subst (λ (qs : List RunRetrieval). MeetByDraws all (qs ++ rest)) (sym none) meets
step_meets all w s rest (inr a) among later seeds meets =
    let first : IsSeedAmong all a.asked = (subst (AllByRecursion (IsSeedAmong all)) a.only among).0 in
    subst (λ (qs : List RunRetrieval). MeetByDraws all (qs ++ rest)) (sym a.only) (
      all_of_both (IsLater (runs_after w.runs s)) (IsSeedAmong all) (MeetsByDraws all a.asked) (apart all w s a first) rest later seeds,
      meets,
    )

meet : (all : List (List ℕ)) (w : RunsOverFolder) (steps : List StepOfRun) → all ≡ map seed_of w.runs ++ draws steps → MeetByDraws all (retrievals w steps)
unfolding retrievals MeetByDraws
meet all w [] is = tt
meet all w (s ∷ ss) is =
    let there = draws_after all w s ss is in
    step_meets all w s (retrievals (runs_over_folder_after w s) ss) (at_most w s) (asked_among all (draws (s ∷ ss)) w s is (at_most w s)) (all_later (runs_over_folder_after w s) ss)
    (all_among all (runs_over_folder_after w s) ss there) (meet all (runs_over_folder_after w s) ss there)

pub only_equal_draws_meet : OnlyEqualDrawsMeet
only_equal_draws_meet folder steps = meet (draws steps) (runs_over_folder folder) steps refl

-- ---- the folder

abbrev over : List (List ℕ) → List RunOfClient → RunsOverFolder
over folder runs = record { folder = folder; runs = runs }

unmoved : (steps : List StepOfRun) (folder other : List (List ℕ)) (runs : List RunOfClient) →
    retrievals (over folder runs) steps ≡ retrievals (over other runs) (without_replacements steps)
unfolding retrievals without_replacements
unmoved [] folder other runs = refl
unmoved (Begins draw ∷ ss) folder other runs = unmoved ss folder other (runs_after runs (Begins draw))
unmoved (Happens i h ∷ ss) folder other runs =
    ap (λ (qs : List RunRetrieval). asked_by i h (slice_get runs i) ++ qs) (unmoved ss folder other (runs_after runs (Happens i h)))
unmoved (Speaks i wide ∷ ss) folder other runs = unmoved ss folder other (runs_after runs (Speaks i wide))
unmoved (TakesUp i hint ∷ ss) folder other runs = unmoved ss folder other (runs_after runs (TakesUp i hint))
unmoved (Ends i ∷ ss) folder other runs = unmoved ss folder other (runs_after runs (Ends i))
unmoved (Replaces found ∷ ss) folder other runs = unmoved ss found other runs

pub folders_change_nothing : FoldersChangeNothing
folders_change_nothing folder other steps = unmoved steps folder other []

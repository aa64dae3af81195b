-- Moves and what is printed on the way.
use Rattle.std.proofs.Common.{◌≡◌, ℕ, ◌+◌, ◌<◌, inl, inr, List, [], ◌∷◌, ◌++◌, length, take, map, Option, Result, Ok, Err, refl, sym, ap, subst, ◌∙◌, append_assoc, append-nil, arith, length-append}
use Rattle.std.proofs.Math.Seq.{take-append-add, take-length}
use Rattle.std.proofs.lemmas.List.{take-append-le, take-map}
use Rattle.std.proofs.lemmas.List.Folds.{flat_map-map}
use Rattle.std.proofs.KnownBytes.{Appends-nil, Appends-trans}
use Rattle.std.specs.Io.KnownBytes.{Appends}
use Rattle.std.specs.List.{flat_map}
use Rattle.pir_world.specs.declared.steps.Outcome.{Outcome}
use Rattle.world_script.specs.declared.progress.Progress.{Progress}
use Rattle.world_script.specs.declared.stop.Stop.{Stop}
use Rattle.world_script.specs.declared.stop.Stop.TheVariants as stop
use Rattle.world_script.specs.Texts.{outcome_text, bad_line_text, refused_world_text, memory_text}
use Rattle.world_script.specs.Scripts.{ScriptPlace, ScriptMove, Goes, Bad, Refused, FollowsMove, IsOutOfMemory, joined_texts}
use Rattle.world_script.specs.Progress.{MovesQuietly, MakesMove, StopsAtMove, StopsScript, SaysAll, SaysText}

-- the lines of outcomes are their texts, one after another
pub joined-map : (outcomes : List Outcome) → joined_texts (map outcome_text outcomes) ≡ flat_map outcome_text outcomes
joined-map outcomes = flat_map-map (λ (t : List ℕ). t) outcome_text outcomes

-- one text is what it is
pub joined_one : (text : List ℕ) → joined_texts (text ∷ []) ≡ text
joined_one text = append-nil text

-- a move that prints nothing
pub MovesTo-from_quiet : (L : ScriptMove → Type 0) (n : ℕ) (o : Option (List ℕ)) (r : Result Progress Stop) → MovesQuietly L n r → MakesMove L n o r o
MovesTo-from_quiet L n o (Ok s) h = (h.0, [], h.1, h.2, Appends-nil o)
MovesTo-from_quiet L n o (Err (stop.BadLine m)) h = (h.0, h.1, Appends-nil o)
MovesTo-from_quiet L n o (Err stop.Memory) h = inl (Appends-nil o)
MovesTo-from_quiet L n o (Err (stop.World e)) h = absurd h
MovesTo-from_quiet L n o (Err stop.Read) h = absurd h
MovesTo-from_quiet L n o (Err stop.Write) h = absurd h
MovesTo-from_quiet L n o (Err stop.TooLong) h = absurd h

-- a move whose texts are those of outcomes ends as they were said
pub StopsAt-from_all : (L : ScriptMove → Type 0) (n : ℕ) (next : ScriptPlace) (outcomes : List Outcome) (o t : Option (List ℕ)) (e : Stop) →
    L (Goes next (map outcome_text outcomes)) → SaysAll outcomes o (Err e) t → StopsAtMove L n o e t
StopsAt-from_all L n next outcomes o t stop.Memory l h =
    inr (
      next,
      map outcome_text outcomes,
      h.0,
      l,
      subst (Appends o t) (sym (ap joined_texts (take-map outcome_text h.0 outcomes) ∙ joined-map (take h.0 outcomes))) h.1,
    )
StopsAt-from_all L n next outcomes o t stop.Write l h = (
  next,
  map outcome_text outcomes,
  h.0,
  l,
  subst (λ (x : List ℕ). h.0 < length x) (sym (joined-map outcomes)) h.1,
  subst (λ (x : List ℕ). Appends o t (take h.0 x)) (sym (joined-map outcomes)) h.2,
)
StopsAt-from_all L n next outcomes o t (stop.BadLine m) l h = absurd h
StopsAt-from_all L n next outcomes o t (stop.World e) l h = absurd h
StopsAt-from_all L n next outcomes o t stop.Read l h = absurd h
StopsAt-from_all L n next outcomes o t stop.TooLong l h = absurd h

-- a move whose only text is cut off
pub StopsAt-from_text : (L : ScriptMove → Type 0) (n : ℕ) (next : ScriptPlace) (text : List ℕ) (o t : Option (List ℕ)) (e : Stop) →
    L (Goes next (text ∷ [])) → SaysText text o (Err e) t → StopsAtMove L n o e t
StopsAt-from_text L n next text o t stop.Memory l h = inl h
StopsAt-from_text L n next text o t stop.Write l h = (
  next,
  text ∷ [],
  h.0,
  l,
  subst (λ (x : List ℕ). h.0 < length x) (sym (joined_one text)) h.1,
  subst (λ (x : List ℕ). Appends o t (take h.0 x)) (sym (joined_one text)) h.2,
)
StopsAt-from_text L n next text o t (stop.BadLine m) l h = absurd h
StopsAt-from_text L n next text o t (stop.World e) l h = absurd h
StopsAt-from_text L n next text o t stop.Read l h = absurd h
StopsAt-from_text L n next text o t stop.TooLong l h = absurd h

-- a script stops as its line does
pub StopsScript-from : (L : ScriptMove → Type 0) (Prints : List ℕ → ℕ → Type 0) (n : ℕ) (then_ : ScriptPlace → List ℕ → ℕ → Type 0)
    (first mid last : Option (List ℕ)) (said : List ℕ) (e : Stop) →
    Appends first mid said →
    ((printed : List ℕ) (status : ℕ) → IsOutOfMemory printed status → Prints (said ++ printed) status) →
    ((m : ScriptMove) (printed : List ℕ) (status : ℕ) → L m → FollowsMove n then_ m printed status → Prints (said ++ printed) status) →
    StopsAtMove L n mid e last → StopsScript Prints first e last
StopsScript-from L Prints n then_ first mid last said (stop.BadLine m) wrote forgets goes h = record {
  said = said;
  wrote = subst (Appends first last) (append-nil said) (Appends-trans first mid last said [] wrote h.2);
  ends = goes Bad (bad_line_text m) 3 h.1 (ap bad_line_text h.0, refl);
  forgets = forgets memory_text 4 (refl, refl);
}
StopsScript-from L Prints n then_ first mid last said (stop.World e) wrote forgets goes h = record {
  said = said;
  wrote = subst (Appends first last) (append-nil said) (Appends-trans first mid last said [] wrote h.1);
  ends = goes (Refused e) (refused_world_text e) 3 h.0 (refl, refl);
  forgets = forgets memory_text 4 (refl, refl);
}
StopsScript-from L Prints n then_ first mid last said stop.Memory wrote forgets goes (inl h) = record {
  said = said;
  wrote = subst (Appends first last) (append-nil said) (Appends-trans first mid last said [] wrote h);
  ends = forgets memory_text 4 (refl, refl);
  forgets = forgets memory_text 4 (refl, refl);
}
StopsScript-from L Prints n then_ first mid last said stop.Memory wrote forgets goes (inr h) =
    let part : List ℕ = joined_texts (take h.2 h.1) in
    let ends : Prints ((said ++ part) ++ memory_text) 4 =
    subst (λ (x : List ℕ). Prints x 4) (sym (append_assoc said part memory_text))
    (goes (Goes h.0 h.1) (part ++ memory_text) 4 h.3 (inr (h.2, refl, refl)))
    in record {
      said = said ++ part;
      wrote = Appends-trans first mid last said part wrote h.4;
      ends = ends;
      forgets = ends;
    }
StopsScript-from L Prints n then_ first mid last said stop.Write wrote forgets goes h =
    let all : List ℕ = joined_texts h.1 in
    let short : h.2 < length all = h.4 in
    let cut : take (length said + h.2) (said ++ (all ++ memory_text)) ≡ said ++ take h.2 all =
    take-append-add said (all ++ memory_text) h.2 ∙ ap (λ (x : List ℕ). said ++ x) (take-append-le h.2 all memory_text (omega (arith, short))) in
    let long : length (said ++ (all ++ memory_text)) ≡ length said + (length all + length memory_text) =
    length-append said (all ++ memory_text) ∙ ap (λ (x : ℕ). length said + x) (length-append all memory_text) in
    record {
      printed = said ++ (all ++ memory_text);
      status = 4;
      count = length said + h.2;
      prints = goes (Goes h.0 h.1) (all ++ memory_text) 4 h.3
          (inr (length h.1, ap (λ (x : List (List ℕ)). joined_texts x ++ memory_text) (sym (take-length h.1)), refl));
      short = omega (arith, long, short);
      wrote = subst (Appends first last) (sym cut) (Appends-trans first mid last said (take h.2 all) wrote h.5);
    }
StopsScript-from L Prints n then_ first mid last said stop.Read wrote forgets goes h = absurd h
StopsScript-from L Prints n then_ first mid last said stop.TooLong wrote forgets goes h = absurd h

-- moves of one kind are moves of another
pub StopsAt-map : (L M : ScriptMove → Type 0) (n : ℕ) (o t : Option (List ℕ)) (e : Stop) → ((m : ScriptMove) → L m → M m) → StopsAtMove L n o e t → StopsAtMove M n o e t
StopsAt-map L M n o t (stop.BadLine m) f h = (h.0, f Bad h.1, h.2)
StopsAt-map L M n o t (stop.World x) f h = (f (Refused x) h.0, h.1)
StopsAt-map L M n o t stop.Memory f (inl h) = inl h
StopsAt-map L M n o t stop.Memory f (inr h) = inr (h.0, h.1, h.2, f (Goes h.0 h.1) h.3, h.4)
StopsAt-map L M n o t stop.Write f h = (h.0, h.1, h.2, f (Goes h.0 h.1) h.3, h.4, h.5)
StopsAt-map L M n o t stop.Read f h = absurd h
StopsAt-map L M n o t stop.TooLong f h = absurd h

pub MovesTo-map : (L M : ScriptMove → Type 0) (n : ℕ) (o t : Option (List ℕ)) (r : Result Progress Stop) → ((m : ScriptMove) → L m → M m) →
    MakesMove L n o r t → MakesMove M n o r t
MovesTo-map L M n o t (Ok s) f h = (h.0, h.1, h.2, f (Goes h.0 h.1) h.3, h.4)
MovesTo-map L M n o t (Err e) f h = StopsAt-map L M n o t e f h

-- A script that is played line by line.
use Rattle.std.proofs.Common.{◌≡◌, ℕ, ◌+◌, inl, inr, List, [], ◌∷◌, ◌++◌, Option, Result, Ok, Err, refl, sym, ap, subst, append_assoc, append-nil}
use Rattle.std.proofs.KnownBytes.{Appends-nil, Appends-trans}
use Rattle.std.specs.Io.KnownBytes.{Appends}
use Rattle.world_script.specs.declared.progress.Progress.{Progress}
use Rattle.world_script.specs.declared.stop.Stop.{Stop}
use Rattle.world_script.specs.declared.stop.Stop.TheVariants as stop
use Rattle.world_script.specs.Texts.{bad_line_text, refused_world_text, memory_text}
use Rattle.world_script.specs.Lines.{lines_of}
use Rattle.world_script.specs.Scripts.{ScriptPlace, Start, ScriptMove, Goes, Bad, Refused, FollowsMove, IsOutOfMemory, IsPlayedOut, LeadsText, LeadsAtEnd, Plays, joined_texts}
use Rattle.world_script.specs.Progress.{IsAt, MakesMove, StopsAtMove, StopsScript, PlaysScript, EndsAs}
use Rattle.world_script.proofs.Moves.{StopsScript-from}

-- some of a script's lines were played: what is still to come, after what was said, is what the
-- script prints
pub record IsPlayed (script rest : List ℕ) (progress : Progress) (number : ℕ) (old new : Option (List ℕ)) : Type 0 where
  pub place : ScriptPlace
  pub said : List ℕ
  pub at : IsAt progress place
  pub wrote : Appends old new said
  pub plays : (printed : List ℕ) (status : ℕ) → Plays (lines_of rest) place number printed status → Plays (lines_of script) Start 1 (said ++ printed) status

-- none was
pub IsPlayed-start : (script : List ℕ) (progress : Progress) (o : Option (List ℕ)) → IsAt progress Start → IsPlayed script script progress 1 o o
IsPlayed-start script progress o at = record { place = Start; said = []; at = at; wrote = Appends-nil o; plays = λ printed status h. h }

-- what a line's move says of all that is to come
pub line_goes : (rest text after : List ℕ) (place : ScriptPlace) (number : ℕ) → lines_of rest ≡ text ∷ lines_of after →
    (m : ScriptMove) (printed : List ℕ) (status : ℕ) → LeadsText place text m →
    FollowsMove number (λ next r s. Plays (lines_of after) next (number + 1) r s) m printed status →
    Plays (lines_of rest) place number printed status
line_goes rest text after place number e m printed status l f =
    subst (λ (ls : List (List ℕ)). Plays ls place number printed status) (sym e) (inr (m, l, f))

-- memory may be refused at a line
pub line_forgets : (rest text after : List ℕ) (place : ScriptPlace) (number : ℕ) → lines_of rest ≡ text ∷ lines_of after →
    (printed : List ℕ) (status : ℕ) → IsOutOfMemory printed status → Plays (lines_of rest) place number printed status
line_forgets rest text after place number e printed status h =
    subst (λ (ls : List (List ℕ)). Plays ls place number printed status) (sym e) (inl h)

-- one line more
pub IsPlayed-more : (script rest text after : List ℕ) (progress next : Progress) (number : ℕ) (old mid new : Option (List ℕ)) →
    (p : IsPlayed script rest progress number old mid) → lines_of rest ≡ text ∷ lines_of after →
    MakesMove (LeadsText p.place text) number mid (Ok next) new → IsPlayed script after next (number + 1) old new
IsPlayed-more script rest text after progress next number old mid new p e h = record {
  place = h.0;
  said = p.said ++ joined_texts h.1;
  at = h.2;
  wrote = Appends-trans old mid new p.said (joined_texts h.1) p.wrote h.4;
  plays = λ printed status k.
      subst (λ (x : List ℕ). Plays (lines_of script) Start 1 x status) (sym (append_assoc p.said (joined_texts h.1) printed))
      (p.plays (joined_texts h.1 ++ printed) status
      (line_goes rest text after p.place number e (Goes h.0 h.1) (joined_texts h.1 ++ printed) status h.3 (inl (printed, refl, k))));
}

-- a line that stops
pub IsPlayed-stops : (script rest text after : List ℕ) (progress : Progress) (number : ℕ) (old mid new : Option (List ℕ)) (e : Stop) →
    (p : IsPlayed script rest progress number old mid) → lines_of rest ≡ text ∷ lines_of after →
    StopsAtMove (LeadsText p.place text) number mid e new → StopsScript (Plays (lines_of script) Start 1) old e new
IsPlayed-stops script rest text after progress number old mid new e p is h =
    StopsScript-from (LeadsText p.place text) (Plays (lines_of script) Start 1) number
    (λ next r s. Plays (lines_of after) next (number + 1) r s) old mid new p.said e p.wrote
    (λ printed status m. p.plays printed status (line_forgets rest text after p.place number is printed status m))
    (λ m printed status l f. p.plays printed status (line_goes rest text after p.place number is m printed status l f))
    h

-- what the end's move says of all that is to come
pub end_goes : (rest : List ℕ) (place : ScriptPlace) (number : ℕ) → lines_of rest ≡ [] → (m : ScriptMove) (printed : List ℕ) (status : ℕ) →
    LeadsAtEnd place m → FollowsMove number IsPlayedOut m printed status → Plays (lines_of rest) place number printed status
end_goes rest place number e m printed status l f =
    subst (λ (ls : List (List ℕ)). Plays ls place number printed status) (sym e) (inr (m, l, f))

-- memory may be refused at the end
pub end_forgets : (rest : List ℕ) (place : ScriptPlace) (number : ℕ) → lines_of rest ≡ [] → (printed : List ℕ) (status : ℕ) →
    IsOutOfMemory printed status → Plays (lines_of rest) place number printed status
end_forgets rest place number e printed status h =
    subst (λ (ls : List (List ℕ)). Plays ls place number printed status) (sym e) (inl h)

-- the end of a script
pub IsPlayed-ends : (script rest : List ℕ) (progress : Progress) (number : ℕ) (old mid : Option (List ℕ)) (r : Result (Unit {0}) Stop) →
    (p : IsPlayed script rest progress number old mid) → lines_of rest ≡ [] →
    EndsAs (LeadsAtEnd p.place) number r → PlaysScript (Plays (lines_of script) Start 1) old r mid
IsPlayed-ends script rest progress number old mid (Ok u) p e h = (
  p.said ++ [],
  p.plays [] 0 (end_goes rest p.place number e (Goes h.0 []) [] 0 h.1 (inl ([], refl, (refl, refl)))),
  subst (Appends old mid) (sym (append-nil p.said)) p.wrote,
)
IsPlayed-ends script rest progress number old mid (Err (stop.BadLine m)) p e h = record {
  said = p.said;
  wrote = p.wrote;
  ends = p.plays (bad_line_text m) 3 (end_goes rest p.place number e Bad (bad_line_text m) 3 h.1 (ap bad_line_text h.0, refl));
  forgets = p.plays memory_text 4 (end_forgets rest p.place number e memory_text 4 (refl, refl));
}
IsPlayed-ends script rest progress number old mid (Err (stop.World f)) p e h = record {
  said = p.said;
  wrote = p.wrote;
  ends = p.plays (refused_world_text f) 3 (end_goes rest p.place number e (Refused f) (refused_world_text f) 3 h (refl, refl));
  forgets = p.plays memory_text 4 (end_forgets rest p.place number e memory_text 4 (refl, refl));
}
IsPlayed-ends script rest progress number old mid (Err stop.Memory) p e h = record {
  said = p.said;
  wrote = p.wrote;
  ends = p.plays memory_text 4 (end_forgets rest p.place number e memory_text 4 (refl, refl));
  forgets = p.plays memory_text 4 (end_forgets rest p.place number e memory_text 4 (refl, refl));
}
IsPlayed-ends script rest progress number old mid (Err stop.Read) p e h = absurd h
IsPlayed-ends script rest progress number old mid (Err stop.Write) p e h = absurd h
IsPlayed-ends script rest progress number old mid (Err stop.TooLong) p e h = absurd h

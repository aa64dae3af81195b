-- How a rehearsal ends.
use Rattle.std.proofs.Common.{◌≡◌, ◌≤◌, ◌<◌, ◌+◌, ◌⊎◌, inl, inr, ℕ, List, [], ◌++◌, length, take, Option, Result, Ok, Err, IfOk, refl, sym, subst, append-nil, length-append, arith}
use Rattle.std.proofs.KnownBytes.{Appends-trans}
use Rattle.std.proofs.Math.Seq.{take-append-add}
use Rattle.std.specs.Io.KnownBytes.{Appends, Consumes, IsAtEnd}
use Rattle.world_script.specs.declared.play.RehearseFault.{RehearseFault}
use Rattle.world_script.specs.declared.play.RehearseFault.TheVariants as fault
use Rattle.world_script.specs.declared.stop.Stop.{Stop}
use Rattle.world_script.specs.declared.stop.Stop.TheVariants as stop
use Rattle.world_script.specs.Texts.{memory_text, too_long_text}
use Rattle.world_script.specs.Lines.{lines_of}
use Rattle.world_script.specs.Scripts.{Start, Plays, IsRehearsal}
use Rattle.world_script.specs.Progress.{IsBefore, IsEarly, HasLastLine, StopsScript, StopsReading, ReportsEnd, SaysText, last_text, last_status}

-- nothing more was written
pub and_nothing : (a b c : Option (List ℕ)) (said : List ℕ) → Appends a b said → Appends b c [] → Appends a c said
and_nothing a b c said p q = subst (Appends a c) (append-nil said) (Appends-trans a b c said [] p q)

-- an end with its line
pub early_done : (e : Stop) (o n : Option (List ℕ)) → IsEarly e → Appends o n (last_text e) → ReportsEnd e o (Ok 3) n
early_done stop.TooLong o n h said = (tt, inl (said, refl))
early_done (stop.BadLine m) o n h said = (tt, inl (said, refl))
early_done (stop.World f) o n h said = (tt, inl (said, refl))
early_done stop.Read o n h said = absurd h
early_done stop.Write o n h said = absurd h
early_done stop.Memory o n h said = absurd h

pub early_has_line : (e : Stop) → IsEarly e → HasLastLine e
early_has_line stop.TooLong h = tt
early_has_line (stop.BadLine m) h = tt
early_has_line (stop.World f) h = tt
early_has_line stop.Read h = absurd h
early_has_line stop.Write h = absurd h
early_has_line stop.Memory h = absurd h

-- an end for which memory was refused
pub early_memory : (e : Stop) (o m n : Option (List ℕ)) (r : Result ℕ RehearseFault) → IsEarly e → Appends o m [] → ReportsEnd stop.Memory m r n → ReportsEnd e o r n
early_memory e o m n (Ok status) h p (x, inl q) = (early_has_line e h, inr (Appends-trans o m n [] memory_text p q.0, q.1))
early_memory e o m n (Ok status) h p (x, inr q) = (early_has_line e h, inr (Appends-trans o m n [] memory_text p q.0, q.1))
early_memory e o m n (Err fault.Read) h p q = let bad : stop.Memory ≡ stop.Read = q.0 in cc
early_memory e o m n (Err fault.Write) h p (inl q) = let bad : stop.Memory ≡ stop.Write = q.0 in cc
early_memory e o m n (Err fault.Write) h p (inr (inl (x, q))) = inr (inr (early_has_line e h, (q.0, q.1, Appends-trans o m n [] (take q.0 memory_text) p q.2)))
early_memory e o m n (Err fault.Write) h p (inr (inr (x, q))) = inr (inr (early_has_line e h, (q.0, q.1, Appends-trans o m n [] (take q.0 memory_text) p q.2)))

-- an end whose line was cut off
pub early_cut : (e f : Stop) (o n : Option (List ℕ)) → IsEarly e → (f ≡ stop.Memory → ⊥) → SaysText (last_text e) o (Err f) n → ReportsEnd e o (Err fault.Write) n
early_cut e stop.Write o n h k q = inr (inl (early_has_line e h, q))
early_cut e stop.Memory o n h k q = absurd (k refl)
early_cut e stop.Read o n h k q = absurd q
early_cut e stop.TooLong o n h k q = absurd q
early_cut e (stop.BadLine m) o n h k q = absurd q
early_cut e (stop.World f) o n h k q = absurd q

-- what a rehearsal that was done has read and printed
abbrev pub Done : Option (List ℕ) → Option (List ℕ) → Option (List ℕ) → Option (List ℕ) → ℕ → Type 0
Done ro rn wo wn status = (script : List ℕ) × (printed : List ℕ) × Consumes ro rn script × Appends wo wn printed × IsRehearsal script rn printed status

-- and one that was cut off
abbrev pub Cut : Option (List ℕ) → Option (List ℕ) → Option (List ℕ) → Option (List ℕ) → Type 0
Cut ro rn wo wn =
    (script : List ℕ) × (printed : List ℕ) × (status : ℕ) × (count : ℕ) × (count < length printed) × Consumes ro rn script
    × Appends wo wn (take count printed) × IsRehearsal script rn printed status

pub reading_done : (ro rn wo wn : Option (List ℕ)) (e : Stop) (status : ℕ) → StopsReading ro e rn → ReportsEnd e wo (Ok status) wn → Done ro rn wo wn status
reading_done ro rn wo wn stop.Memory status s (x, inl h) = (s.0, memory_text, s.1, h.0, inl (refl, h.1))
reading_done ro rn wo wn stop.Memory status s (x, inr h) = (s.0, memory_text, s.1, h.0, inl (refl, h.1))
reading_done ro rn wo wn stop.TooLong status s (x, inl h) = (s.0, too_long_text, s.1, h.0, inr (inl (s.2, refl, h.1)))
reading_done ro rn wo wn stop.TooLong status s (x, inr h) = (s.0, memory_text, s.1, h.0, inl (refl, h.1))
reading_done ro rn wo wn stop.Read status s h = absurd h.0
reading_done ro rn wo wn stop.Write status s h = absurd s
reading_done ro rn wo wn (stop.BadLine m) status s h = absurd s
reading_done ro rn wo wn (stop.World f) status s h = absurd s

pub reading_cut : (ro rn wo wn : Option (List ℕ)) (e : Stop) → StopsReading ro e rn → ReportsEnd e wo (Err fault.Write) wn → Cut ro rn wo wn
reading_cut ro rn wo wn stop.Memory s (inl h) = let bad : stop.Memory ≡ stop.Write = h.0 in cc
reading_cut ro rn wo wn stop.Memory s (inr (inl (x, h))) = (s.0, memory_text, 4, h.0, h.1, s.1, h.2, inl (refl, refl))
reading_cut ro rn wo wn stop.Memory s (inr (inr (x, h))) = (s.0, memory_text, 4, h.0, h.1, s.1, h.2, inl (refl, refl))
reading_cut ro rn wo wn stop.TooLong s (inl h) = let bad : stop.TooLong ≡ stop.Write = h.0 in cc
reading_cut ro rn wo wn stop.TooLong s (inr (inl (x, h))) = (s.0, too_long_text, 3, h.0, h.1, s.1, h.2, inr (inl (s.2, refl, refl)))
reading_cut ro rn wo wn stop.TooLong s (inr (inr (x, h))) = (s.0, memory_text, 4, h.0, h.1, s.1, h.2, inl (refl, refl))
reading_cut ro rn wo wn stop.Read s (inl h) = let bad : stop.Read ≡ stop.Write = h.0 in cc
reading_cut ro rn wo wn stop.Read s (inr (inl h)) = absurd h.0
reading_cut ro rn wo wn stop.Read s (inr (inr h)) = absurd h.0
reading_cut ro rn wo wn stop.Write s h = absurd s
reading_cut ro rn wo wn (stop.BadLine m) s h = absurd s
reading_cut ro rn wo wn (stop.World f) s h = absurd s

-- a script's last line, or that memory for it was refused
pub before_done : (script : List ℕ) (ro rn wo wm wn : Option (List ℕ)) (e : Stop) (status : ℕ) →
    Consumes ro rn script → IsAtEnd rn → length script ≤ 1048576 → IsBefore (Plays (lines_of script) Start 1) e wo wm →
    ((Appends wm wn (last_text e) × (status ≡ last_status e)) ⊎ (Appends wm wn memory_text × (status ≡ 4))) → Done ro rn wo wn status
before_done script ro rn wo wm wn e status read end within b (inl h) = (
  script,
  b.said ++ last_text e,
  read,
  Appends-trans wo wm wn b.said (last_text e) b.wrote h.0,
  inr (inr (end, within, subst (λ (x : ℕ). Plays (lines_of script) Start 1 (b.said ++ last_text e) x) (sym h.1) b.ends)),
)
before_done script ro rn wo wm wn e status read end within b (inr h) = (
  script,
  b.said ++ memory_text,
  read,
  Appends-trans wo wm wn b.said memory_text b.wrote h.0,
  inr (inr (end, within, subst (λ (x : ℕ). Plays (lines_of script) Start 1 (b.said ++ memory_text) x) (sym h.1) b.forgets)),
)

pub playing_done : (script : List ℕ) (ro rn wo wm wn : Option (List ℕ)) (e : Stop) (status : ℕ) →
    Consumes ro rn script → IsAtEnd rn → length script ≤ 1048576 → StopsScript (Plays (lines_of script) Start 1) wo e wm →
    ReportsEnd e wm (Ok status) wn → Done ro rn wo wn status
playing_done script ro rn wo wm wn stop.Memory status read end within b h = before_done script ro rn wo wm wn stop.Memory status read end within b h.1
playing_done script ro rn wo wm wn stop.TooLong status read end within b h = before_done script ro rn wo wm wn stop.TooLong status read end within b h.1
playing_done script ro rn wo wm wn (stop.BadLine m) status read end within b h = before_done script ro rn wo wm wn (stop.BadLine m) status read end within b h.1
playing_done script ro rn wo wm wn (stop.World f) status read end within b h = before_done script ro rn wo wm wn (stop.World f) status read end within b h.1
playing_done script ro rn wo wm wn stop.Read status read end within b h = absurd b
playing_done script ro rn wo wm wn stop.Write status read end within b h = absurd h.0

-- a part of one more text, after those that were said
pub cut_more : (said text : List ℕ) (k : ℕ) (a b c : Option (List ℕ)) → Appends a b said → k < length text → Appends b c (take k text) →
    (length said + k < length (said ++ text)) × Appends a c (take (length said + k) (said ++ text))
cut_more said text k a b c p lt q =
    let long : length (said ++ text) ≡ length said + length text = length-append said text in
    (omega (arith, long, lt), subst (Appends a c) (sym (take-append-add said text k)) (Appends-trans a b c said (take k text) p q))

pub before_cut : (script : List ℕ) (ro rn wo wm wn : Option (List ℕ)) (e : Stop) →
    Consumes ro rn script → IsAtEnd rn → length script ≤ 1048576 → IsBefore (Plays (lines_of script) Start 1) e wo wm → (e ≡ stop.Write → ⊥) →
    ReportsEnd e wm (Err fault.Write) wn → Cut ro rn wo wn
before_cut script ro rn wo wm wn e read end within b other (inl h) = absurd (other h.0)
before_cut script ro rn wo wm wn e read end within b other (inr (inl (x, h))) =
    let cut = cut_more b.said (last_text e) h.0 wo wm wn b.wrote h.1 h.2 in
    (script, b.said ++ last_text e, last_status e, length b.said + h.0, cut.0, read, cut.1, inr (inr (end, within, b.ends)))
before_cut script ro rn wo wm wn e read end within b other (inr (inr (x, h))) =
    let cut = cut_more b.said memory_text h.0 wo wm wn b.wrote h.1 h.2 in
    (script, b.said ++ memory_text, 4, length b.said + h.0, cut.0, read, cut.1, inr (inr (end, within, b.forgets)))

pub playing_cut : (script : List ℕ) (ro rn wo wm wn : Option (List ℕ)) (e : Stop) →
    Consumes ro rn script → IsAtEnd rn → length script ≤ 1048576 → StopsScript (Plays (lines_of script) Start 1) wo e wm →
    ReportsEnd e wm (Err fault.Write) wn → Cut ro rn wo wn
playing_cut script ro rn wo wm wn stop.Memory read end within b h = before_cut script ro rn wo wm wn stop.Memory read end within b (λ e. cc) h
playing_cut script ro rn wo wm wn stop.TooLong read end within b h = before_cut script ro rn wo wm wn stop.TooLong read end within b (λ e. cc) h
playing_cut script ro rn wo wm wn (stop.BadLine m) read end within b h = before_cut script ro rn wo wm wn (stop.BadLine m) read end within b (λ e. cc) h
playing_cut script ro rn wo wm wn (stop.World f) read end within b h = before_cut script ro rn wo wm wn (stop.World f) read end within b (λ e. cc) h
playing_cut script ro rn wo wm wn stop.Read read end within b h = absurd b
playing_cut script ro rn wo wm wn stop.Write read end within b (inl h) =
    (script, b.printed, b.status, b.count, b.short, read, and_nothing wo wm wn (take b.count b.printed) b.wrote h.1, inr (inr (end, within, b.prints)))
playing_cut script ro rn wo wm wn stop.Write read end within b (inr (inl h)) = absurd h.0
playing_cut script ro rn wo wm wn stop.Write read end within b (inr (inr h)) = absurd h.0

-- the same of results
pub if_done : (ro rn wo wn wm : Option (List ℕ)) (e : Stop) (r : Result ℕ RehearseFault) →
    ((status : ℕ) → ReportsEnd e wm (Ok status) wn → Done ro rn wo wn status) → ReportsEnd e wm r wn → IfOk r (λ status. Done ro rn wo wn status)
if_done ro rn wo wn wm e (Ok status) f h = f status h
if_done ro rn wo wn wm e (Err x) f h = tt

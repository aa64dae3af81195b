-- What calls of a pair do to its reader and its writer.
use Rattle.std.proofs.Common.{◌≡◌, ◌<◌, ℕ, List, [], ◌∷◌, ◌++◌, map, Option, refl, sym, subst, ◌∙◌, append-nil}
use Rattle.std.specs.List.{FoldsTo, concat}
use Rattle.std.specs.Io.KnownBytes.{Appends, Consumes, IsAtEnd}
use Rattle.std.proofs.KnownBytes.{Appends-nil, Appends-kept, Appends-trans, Consumes-nil, Consumes-kept, Consumes-trans}
use Rattle.connection_io.specs.declared.pair.Pair.{Pair}
use Rattle.connection_io.specs.Calls.{Read, ReadFails, Write, Sends, SendsUntilFault}
use Rattle.connection_io.specs.Pairs.{PairDoes}

-- from one state of a pair to another: these bytes were read and those written
pub record Moved {R W : Type 0} (remaining : R → Option (List ℕ)) (contents : W → Option (List ℕ)) (a : Pair R W) (read out : List ℕ)
    (b : Pair R W) : Type 0 where
  pub taken : Consumes (remaining a.reader.now) (remaining b.reader.now) read
  pub given : Appends (contents a.writer.now) (contents b.writer.now) out
  pub same_reader : b.reader.ghost_name ≡ a.reader.ghost_name
  pub same_writer : b.writer.ghost_name ≡ a.writer.ghost_name

-- writes leave the reader as it was, and the writer has gained their bytes
record Wrote {R W : Type 0} (remaining : R → Option (List ℕ)) (contents : W → Option (List ℕ)) (a : Pair R W) (bytes : List ℕ) (b : Pair R W) : Type 0 where
  left : remaining b.reader.now ≡ remaining a.reader.now
  held : Appends (contents a.writer.now) (contents b.writer.now) bytes
  same_reader : b.reader.ghost_name ≡ a.reader.ghost_name
  same_writer : b.writer.ghost_name ≡ a.writer.ghost_name

wrote_parts : {R W : Type 0} (remaining : R → Option (List ℕ)) (contents : W → Option (List ℕ)) (a : Pair R W) (parts : List (List ℕ)) (b : Pair R W) →
    FoldsTo (PairDoes remaining contents) a (map Write parts) b → Wrote remaining contents a (concat parts) b
wrote_parts remaining contents a [] b e =
    subst (λ (q : Pair _ _). Wrote remaining contents a [] q) e
    (record { left = refl; held = Appends-nil (contents a.writer.now); same_reader = refl; same_writer = refl })
wrote_parts remaining contents a (p ∷ ps) b f =
    let one = f.1 in
    let rest = wrote_parts remaining contents f.0 ps b f.2 in
    record {
      left = rest.left ∙ one.moves.0;
      held = Appends-trans (contents a.writer.now) (contents f.0.writer.now) (contents b.writer.now) p (concat ps) one.moves.1 rest.held;
      same_reader = rest.same_reader ∙ one.same_reader;
      same_writer = rest.same_writer ∙ one.same_writer;
    }

wrote : {R W : Type 0} (remaining : R → Option (List ℕ)) (contents : W → Option (List ℕ)) (a : Pair R W) (bytes : List ℕ) (b : Pair R W) →
    Sends (PairDoes remaining contents) a bytes b → Wrote remaining contents a bytes b
wrote remaining contents a bytes b s = subst (λ (x : List ℕ). Wrote remaining contents a x b) s.1 (wrote_parts remaining contents a s.0 b s.2)

pub moved_none : {R W : Type 0} (remaining : R → Option (List ℕ)) (contents : W → Option (List ℕ)) (a : Pair R W) → Moved remaining contents a [] [] a
moved_none remaining contents a = record {
  taken = Consumes-nil (remaining a.reader.now);
  given = Appends-nil (contents a.writer.now);
  same_reader = refl;
  same_writer = refl;
}

-- a read of some bytes, or of none
pub moved_read : {R W : Type 0} (remaining : R → Option (List ℕ)) (contents : W → Option (List ℕ)) (a b c : Pair R W) (read out piece : List ℕ) (room : ℕ) →
    Moved remaining contents a read out b → PairDoes remaining contents b (Read room piece) c
    → Moved remaining contents a (read ++ piece) out c
moved_read remaining contents a b c read out piece room i d = record {
  taken = Consumes-trans (remaining a.reader.now) (remaining b.reader.now) (remaining c.reader.now) read piece i.taken d.moves.0;
  given = subst (λ o. Appends (contents a.writer.now) o out) (sym d.moves.2) i.given;
  same_reader = d.same_reader ∙ i.same_reader;
  same_writer = d.same_writer ∙ i.same_writer;
}

pub moved_end : {R W : Type 0} (remaining : R → Option (List ℕ)) (contents : W → Option (List ℕ)) (a b c : Pair R W) (read out : List ℕ) (room : ℕ) →
    Moved remaining contents a read out b → PairDoes remaining contents b (Read room []) c
    → Moved remaining contents a read out c
moved_end remaining contents a b c read out room i d =
    subst (λ (x : List ℕ). Moved remaining contents a x out c) (append-nil read) (moved_read remaining contents a b c read out [] room i d)

pub at_end : {R W : Type 0} (remaining : R → Option (List ℕ)) (contents : W → Option (List ℕ)) (b c : Pair R W) (room : ℕ) →
    PairDoes remaining contents b (Read room []) c → 0 < room → IsAtEnd (remaining c.reader.now)
at_end remaining contents b c room d some = d.moves.1 refl some

pub moved_unread : {R W : Type 0} (remaining : R → Option (List ℕ)) (contents : W → Option (List ℕ)) (a b c : Pair R W) (read out : List ℕ) →
    Moved remaining contents a read out b → PairDoes remaining contents b ReadFails c
    → Moved remaining contents a read out c
moved_unread remaining contents a b c read out i d = record {
  taken = Consumes-kept (remaining a.reader.now) (remaining b.reader.now) (remaining c.reader.now) read i.taken d.moves.0;
  given = subst (λ o. Appends (contents a.writer.now) o out) (sym d.moves.1) i.given;
  same_reader = d.same_reader ∙ i.same_reader;
  same_writer = d.same_writer ∙ i.same_writer;
}

pub moved_sent : {R W : Type 0} (remaining : R → Option (List ℕ)) (contents : W → Option (List ℕ)) (a b c : Pair R W) (read out bytes : List ℕ) →
    Moved remaining contents a read out b → Sends (PairDoes remaining contents) b bytes c
    → Moved remaining contents a read (out ++ bytes) c
moved_sent remaining contents a b c read out bytes i s =
    let w = wrote remaining contents b bytes c s in
    record {
      taken = subst (λ o. Consumes (remaining a.reader.now) o read) (sym w.left) i.taken;
      given = Appends-trans (contents a.writer.now) (contents b.writer.now) (contents c.writer.now) out bytes i.given w.held;
      same_reader = w.same_reader ∙ i.same_reader;
      same_writer = w.same_writer ∙ i.same_writer;
    }

-- writes leave what the reader has
pub sent_left : {R W : Type 0} (remaining : R → Option (List ℕ)) (contents : W → Option (List ℕ)) (b c : Pair R W) (bytes : List ℕ) →
    Sends (PairDoes remaining contents) b bytes c → remaining c.reader.now ≡ remaining b.reader.now
sent_left remaining contents b c bytes s = (wrote remaining contents b bytes c s).left

pub faulty_left : {R W : Type 0} (remaining : R → Option (List ℕ)) (contents : W → Option (List ℕ)) (b c : Pair R W) (bytes : List ℕ) →
    SendsUntilFault (PairDoes remaining contents) b bytes c → remaining c.reader.now ≡ remaining b.reader.now
faulty_left remaining contents b c bytes s = s.2.moves.0 ∙ sent_left remaining contents b s.0 bytes s.1

pub moved_faulty : {R W : Type 0} (remaining : R → Option (List ℕ)) (contents : W → Option (List ℕ)) (a b c : Pair R W) (read out bytes : List ℕ) →
    Moved remaining contents a read out b → SendsUntilFault (PairDoes remaining contents) b bytes c
    → Moved remaining contents a read (out ++ bytes) c
moved_faulty remaining contents a b c read out bytes i s =
    let j = moved_sent remaining contents a b s.0 read out bytes i s.1 in
    let d = s.2 in
    record {
      taken = subst (λ o. Consumes (remaining a.reader.now) o read) (sym d.moves.0) j.taken;
      given = Appends-kept (contents a.writer.now) (contents s.0.writer.now) (contents c.writer.now) (out ++ bytes) j.given d.moves.1;
      same_reader = d.same_reader ∙ j.same_reader;
      same_writer = d.same_writer ∙ j.same_writer;
    }

-- what a caller knows of the reader and the writer that it joined, once the pair is gone
pub finally_taken : {R W : Type 0} (remaining : R → Option (List ℕ)) (contents : W → Option (List ℕ)) (a b : Pair R W) (read out : List ℕ) (old new : R) →
    Moved remaining contents a read out b → a.reader.now ≡ old → (a.reader.ghost_name ≡ b.reader.ghost_name → new ≡ b.reader.now)
    → Consumes (remaining old) (remaining new) read
finally_taken remaining contents a b read out old new i is e =
    subst (λ r. Consumes (remaining r) (remaining new) read) is
    (subst (λ r. Consumes (remaining a.reader.now) (remaining r) read) (sym (e (sym i.same_reader))) i.taken)

pub finally_given : {R W : Type 0} (remaining : R → Option (List ℕ)) (contents : W → Option (List ℕ)) (a b : Pair R W) (read out : List ℕ) (old new : W) →
    Moved remaining contents a read out b → a.writer.now ≡ old → (a.writer.ghost_name ≡ b.writer.ghost_name → new ≡ b.writer.now)
    → Appends (contents old) (contents new) out
finally_given remaining contents a b read out old new i is e =
    subst (λ w. Appends (contents w) (contents new) out) is
    (subst (λ w. Appends (contents a.writer.now) (contents w) out) (sym (e (sym i.same_writer))) i.given)

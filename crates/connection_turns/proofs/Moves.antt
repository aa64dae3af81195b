-- Moves of a connection, one after another.
use Rattle.std.proofs.Common.{◌≡◌, ℕ, List, [], ◌∷◌, ◌++◌, refl, sym, ap, subst, ◌∙◌, append_assoc}
use Rattle.std.specs.List.{FoldsTo, flat_map}
use Rattle.std.proofs.lemmas.List.{append-nil}
use Rattle.std.proofs.lemmas.List.Concat.{flat_map-append, flat_map-cons}
use Rattle.std.specs.Prelude.{length, nat_lt}
use Rattle.connection_turns.proofs.Awaiting.{write_keeps}
use Rattle.connection_turns.specs.Connections.{ConnectionSeen, ConnectionMove, Receives, Ends, Answers, Writes, MovesTo, Keeps, ConnectionsKeep, accepted, bytes_received, bytes_served, bytes_replied, bytes_sent}

-- one more move
one : (f : ConnectionMove → List ℕ) (done : List ConnectionMove) (x : ConnectionMove) → flat_map f (done ++ x ∷ []) ≡ flat_map f done ++ f x
one f done x =
    flat_map-append f done (x ∷ []) ∙ ap (λ (y : List ℕ). flat_map f done ++ y) (flat_map-cons f x [] ∙ append-nil (f x))

keeps_one : (done : List ConnectionMove) (l : ConnectionSeen) (x : ConnectionMove) (m : ConnectionSeen) → Keeps done l → MovesTo l x m → Keeps (done ++ x ∷ []) m
keeps_one done l (Receives bytes) m k s =
    let r = one bytes_received done (Receives bytes) in
    let v = one bytes_served done (Receives bytes) ∙ append-nil (flat_map bytes_served done) in
    let o = one bytes_replied done (Receives bytes) ∙ append-nil (flat_map bytes_replied done) in
    let w = one bytes_sent done (Receives bytes) ∙ append-nil (flat_map bytes_sent done) in
    let u : m.unserved ≡ bytes = ap (λ (y : ConnectionSeen). y.unserved) s.1 in
    let d : m.owed ≡ l.owed = ap (λ (y : ConnectionSeen). y.owed) s.1 in
    let i : flat_map bytes_received done ≡ flat_map bytes_served done =
    k.input ∙ ap (λ (y : List ℕ). flat_map bytes_served done ++ y) s.0 ∙ append-nil (flat_map bytes_served done) in
    record {
      input = r ∙ ap (λ (y : List ℕ). y ++ bytes) i ∙ sym (ap (λ (y : List ℕ). y ++ m.unserved) v ∙ ap (λ (y : List ℕ). flat_map bytes_served done ++ y) u);
      output = o ∙ k.output ∙ sym (ap (λ (y : List ℕ). y ++ m.owed) w ∙ ap (λ (y : List ℕ). flat_map bytes_sent done ++ y) d);
    }
keeps_one done l Ends m k s =
    let r = one bytes_received done Ends ∙ append-nil (flat_map bytes_received done) in
    let v = one bytes_served done Ends ∙ append-nil (flat_map bytes_served done) in
    let o = one bytes_replied done Ends ∙ append-nil (flat_map bytes_replied done) in
    let w = one bytes_sent done Ends ∙ append-nil (flat_map bytes_sent done) in
    let u : m.unserved ≡ l.unserved = ap (λ (y : ConnectionSeen). y.unserved) s in
    let d : m.owed ≡ l.owed = ap (λ (y : ConnectionSeen). y.owed) s in
    record {
      input = r ∙ k.input ∙ sym (ap (λ (y : List ℕ). y ++ m.unserved) v ∙ ap (λ (y : List ℕ). flat_map bytes_served done ++ y) u);
      output = o ∙ k.output ∙ sym (ap (λ (y : List ℕ). y ++ m.owed) w ∙ ap (λ (y : List ℕ). flat_map bytes_sent done ++ y) d);
    }
keeps_one done l (Answers piece reply live now) m k s =
    let r = one bytes_received done (Answers piece reply live now) ∙ append-nil (flat_map bytes_received done) in
    let v = one bytes_served done (Answers piece reply live now) in
    let o = one bytes_replied done (Answers piece reply live now) in
    let w = one bytes_sent done (Answers piece reply live now) ∙ append-nil (flat_map bytes_sent done) in
    let d : m.owed ≡ l.owed ++ reply = ap (λ (y : ConnectionSeen). y.owed) s.1 in
    record {
      input = r ∙ k.input ∙ ap (λ (y : List ℕ). flat_map bytes_served done ++ y) s.0 ∙ sym (append_assoc (flat_map bytes_served done) piece m.unserved)
          ∙ sym (ap (λ (y : List ℕ). y ++ m.unserved) v);
      output = o ∙ ap (λ (y : List ℕ). y ++ reply) k.output ∙ append_assoc (flat_map bytes_sent done) l.owed reply
          ∙ sym (ap (λ (y : List ℕ). y ++ m.owed) w ∙ ap (λ (y : List ℕ). flat_map bytes_sent done ++ y) d);
    }
keeps_one done l (Writes bytes now) m k s =
    let r = one bytes_received done (Writes bytes now) ∙ append-nil (flat_map bytes_received done) in
    let v = one bytes_served done (Writes bytes now) ∙ append-nil (flat_map bytes_served done) in
    let o = one bytes_replied done (Writes bytes now) ∙ append-nil (flat_map bytes_replied done) in
    let w = one bytes_sent done (Writes bytes now) in
    let u : m.unserved ≡ l.unserved = ap (λ (y : ConnectionSeen). y.unserved) s.1 ∙ write_keeps (nat_lt (length bytes) l.awaited) (length bytes) now l in
    record {
      input = r ∙ k.input ∙ sym (ap (λ (y : List ℕ). y ++ m.unserved) v ∙ ap (λ (y : List ℕ). flat_map bytes_served done ++ y) u);
      output = o ∙ k.output ∙ ap (λ (y : List ℕ). flat_map bytes_sent done ++ y) s.0 ∙ sym (append_assoc (flat_map bytes_sent done) bytes m.owed)
          ∙ sym (ap (λ (y : List ℕ). y ++ m.owed) w);
    }

keeps_from : (done moves : List ConnectionMove) (l m : ConnectionSeen) → Keeps done l → FoldsTo MovesTo l moves m → Keeps (done ++ moves) m
keeps_from done [] l m k e = rw append-nil (subst (λ (y : ConnectionSeen). Keeps done y) e k)
keeps_from done (x ∷ moves) l m k (j, step, rest) =
    subst (λ (y : List ConnectionMove). Keeps y m) (append_assoc done (x ∷ []) moves) (keeps_from (done ++ x ∷ []) moves j m (keeps_one done l x j k step) rest)

pub connections_keep : ConnectionsKeep
connections_keep moves now l f = keeps_from [] moves (accepted now) l (record { input = refl; output = refl }) f

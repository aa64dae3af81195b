-- Courses of frames, in two parts.
use Rattle.std.proofs.Common.{◌≡◌, ℕ, List, [], ◌∷◌, ◌++◌, take, drop, Option, Some, None, ap, ◌∙◌, sym, refl, append_assoc}
use Rattle.std.specs.Prelude.{option_to_list}
use Rattle.std.proofs.lemmas.List.{append-nil, take-append-drop}
use Rattle.std.proofs.lemmas.List.Concat.{flat_map-append}
use Rattle.frame_codec.specs.declared.frame.Frame.{Frame}
use Rattle.frame_codec.specs.Frames.{encoding}
use Rattle.once_session.specs.declared.stage.Stage.{Stage}
use Rattle.once_session.specs.Courses.{next, reply, replies_to, stage_after, encodings, work_reply_bytes}
use Rattle.once_session.specs.Outputs.{IsPrefixOf}

pub stage_after-append : (st : Stage) (fs gs : List Frame) → stage_after st (fs ++ gs) ≡ stage_after (stage_after st fs) gs
stage_after-append st [] gs = refl
stage_after-append st (f ∷ fs) gs = stage_after-append (next st f) fs gs

pub replies_to-append : (st : Stage) (fs gs : List Frame) → replies_to st (fs ++ gs) ≡ replies_to st fs ++ replies_to (stage_after st fs) gs
replies_to-append st [] gs = refl
replies_to-append st (f ∷ fs) gs =
    ap (λ rs. option_to_list (reply st f) ++ rs) (replies_to-append (next st f) fs gs)
    ∙ sym (append_assoc (option_to_list (reply st f)) (replies_to (next st f) fs) (replies_to (stage_after (next st f) fs) gs))

pub encodings-reply : (r : Option Frame) → encodings (option_to_list r) ≡ work_reply_bytes r
encodings-reply None = refl
encodings-reply (Some f) = append-nil (encoding f)

-- the output for frames in two parts
pub output-append : (st : Stage) (fs gs : List Frame) →
    encodings (replies_to st (fs ++ gs)) ≡ encodings (replies_to st fs) ++ encodings (replies_to (stage_after st fs) gs)
output-append st fs gs = ap encodings (replies_to-append st fs gs) ∙ flat_map-append encoding (replies_to st fs) (replies_to (stage_after st fs) gs)

-- one more frame
pub output-more : (st : Stage) (fs : List Frame) (f : Frame) →
    encodings (replies_to st (fs ++ f ∷ [])) ≡ encodings (replies_to st fs) ++ work_reply_bytes (reply (stage_after st fs) f)
output-more st fs f =
    output-append st fs (f ∷ [])
    ∙ ap (λ (bs : List ℕ). encodings (replies_to st fs) ++ bs)
    (ap encodings (append-nil (option_to_list (reply (stage_after st fs) f))) ∙ encodings-reply (reply (stage_after st fs) f))

-- a prefix of what follows
pub prefix_after : (a b c : List ℕ) → IsPrefixOf b c → IsPrefixOf (a ++ b) (a ++ c)
prefix_after a b c f = (f.0, ap (λ (x : List ℕ). a ++ x) f.1 ∙ sym (append_assoc a b f.0))

pub prefix_ahead : (a b c : List ℕ) → IsPrefixOf a b → IsPrefixOf a (b ++ c)
prefix_ahead a b c f = (f.0 ++ c, ap (λ (x : List ℕ). x ++ c) f.1 ∙ append_assoc a f.0 c)

pub prefix_taken : (n : ℕ) (xs : List ℕ) → IsPrefixOf (take n xs) xs
prefix_taken n xs = (drop n xs, sym (take-append-drop n xs))

pub all_prefix : (xs : List ℕ) → IsPrefixOf xs xs
all_prefix xs = ([], sym (append-nil xs))

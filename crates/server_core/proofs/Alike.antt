-- Queries that are alike.
use Rattle.std.proofs.Common.{◌≡◌, ℕ, ◌+◌, ◌*◌, Bool, true, false, cond, List, length, Option, Some, None, refl, sym, ap, subst, ◌∙◌}
use Rattle.std.specs.Prelude.{◌==◌}
use Rattle.frame_codec.specs.declared.frame.Frame.{Frame}
use Rattle.frame_codec.specs.declared.frame.Frame.TheVariants.{Answer, Stale}
use Rattle.frame_codec.specs.declared.refusal.Refusal.{Refusal}
use Rattle.frame_codec.specs.declared.refusal.Refusal.TheVariants as refusal
use Rattle.frame_codec.specs.Refusals.{refused}
use Rattle.frame_codec.specs.Frames.{kind_of, payload_of}
use Rattle.frame_codec.proofs.Payloads.{payload_sized}
use Rattle.pir_schemes.specs.declared.scheme.Scheme.{Scheme}
use Rattle.pir_schemes.specs.Schemes.{scheme_byte, scheme_of_byte}
use Rattle.pir_schemes.specs.Plans.{shape_at}
use Rattle.pir_schemes.specs.Retrievals.{query_count, answer_count, answer_words}
use Rattle.pir_schemes.proofs.Lengths.{length-answer}
use Rattle.version_store.specs.Histories.{History, current_version}
use Rattle.server_core.specs.declared.standing.Standing.{Standing}
use Rattle.server_core.specs.Laws.{AreAlikeReplies, RepliesHoldNoIndex, RepliesHoldNoLength, AnswersHaveTheirLayoutsLength}
use Rattle.server_core.specs.Serving.{Setting, AfterFrame, query_asked, reply_given, refusal_given, stale_given, words_asked, is_welcome}

-- ---- queries

-- two outcomes that are alike, on two histories
record Alike (st : Standing) (h g : History) (o p : AfterFrame) : Type 0 where
  reply : Frame
  reply2 : Frame
  first : o ≡ reply_given reply st h
  second : p ≡ reply_given reply2 st g
  alike : AreAlikeReplies reply reply2
  kind : kind_of reply ≡ kind_of reply2
  len : length (payload_of reply) ≡ length (payload_of reply2)

by_case : (st : Standing) (h g : History) (b : Bool) (o o2 p p2 : AfterFrame) → Alike st h g o o2 → Alike st h g p p2 →
    Alike st h g (cond b o p) (cond b o2 p2)
by_case st h g true o o2 p p2 a c = a
by_case st h g false o o2 p p2 a c = c

either : (st : Standing) (h g : History) (b d : Bool) (o o2 p p2 : AfterFrame) → b ≡ d → Alike st h g o o2 → Alike st h g p p2 →
    Alike st h g (cond b o p) (cond d o2 p2)
either st h g b d o o2 p p2 e a c = subst (λ (x : Bool). Alike st h g (cond b o p) (cond x o2 p2)) e (by_case st h g b o o2 p p2 a c)

refusals : (st : Standing) (h g : History) (why : Refusal) → Alike st h g (refusal_given why st h) (refusal_given why st g)
refusals st h g why = record { reply = refused why; reply2 = refused why; first = refl; second = refl; alike = refl; kind = refl; len = refl }

module _ (x : Setting) (st : Standing) (h g : History) (now : current_version h ≡ current_version g) (count : length h.current ≡ length g.current) where
  stales : Alike st h g (stale_given st h) (stale_given st g)
  stales =
      let a = Stale (current_version h) (length h.current) in
      let b = Stale (current_version g) (length g.current) in
      let same : a ≡ b = ap (λ (v : ℕ). Stale v (length h.current)) now ∙ ap (λ (n : ℕ). Stale (current_version g) n) count in
      record {
        reply = a;
        reply2 = b;
        first = refl;
        second = refl;
        alike = sym same;
        kind = refl;
        len = ap (λ (f : Frame). length (payload_of f)) same;
      }

  answers : (s : Scheme) (words others : List ℕ)
      → Alike st h g (reply_given (Answer (scheme_byte s) (current_version h) (answer_words s x.plan h.current words)) st h)
      (reply_given (Answer (scheme_byte s) (current_version g) (answer_words s x.plan g.current others)) st g)
  answers s words others =
      let a = answer_words s x.plan h.current words in
      let b = answer_words s x.plan g.current others in
      let same : length a ≡ length b =
      length-answer s x.plan h.current words
      ∙ ap (λ (n : ℕ). answer_count s (shape_at x.plan n) x.plan.dimension) count
      ∙ sym (length-answer s x.plan g.current others) in
      record {
        reply = Answer (scheme_byte s) (current_version h) a;
        reply2 = Answer (scheme_byte s) (current_version g) b;
        first = refl;
        second = refl;
        alike = (b, ap (λ (v : ℕ). Answer (scheme_byte s) v b) (sym now), sym same);
        kind = refl;
        len = payload_sized (Answer (scheme_byte s) (current_version h) a) ∙ ap (λ (n : ℕ). 9 + 4 * n) same
            ∙ sym (payload_sized (Answer (scheme_byte s) (current_version g) b));
      }

  asked : (s : Option Scheme) (version : ℕ) (words others : List ℕ) → length words ≡ length others →
      Alike st h g (query_asked x h st s version words) (query_asked x g st s version others)
  asked None version words others e = refusals st h g refusal.BadScheme
  asked (Some s) version words others e =
      either st h g (version == current_version h) (version == current_version g) _ _ _ _ (ap (λ (v : ℕ). version == v) now)
      (either st h g (length words == words_asked x s h.current) (length others == words_asked x s g.current) _ _ _ _
      (ap (λ (n : ℕ). n == words_asked x s h.current) e ∙ ap (λ (n : ℕ). length others == query_count s (shape_at x.plan n)) count)
      (answers s words others) (refusals st h g refusal.BadQueryLength))
      stales

pub replies_hold_no_length : RepliesHoldNoLength
replies_hold_no_length x h g st scheme version words others now count e =
    let a = either st h g (is_welcome st) (is_welcome st) _ _ _ _ refl
    (asked x st h g now count (scheme_of_byte scheme) version words others e) (refusals st h g refusal.NotWelcome) in
    record { reply = a.reply; reply2 = a.reply2; first = a.first; second = a.second; alike = a.alike; kind = a.kind; len = a.len }

pub replies_hold_no_index : RepliesHoldNoIndex
replies_hold_no_index x h st scheme version words others e = replies_hold_no_length x h h st scheme version words others refl refl e

pub answers_have_their_layouts_length : AnswersHaveTheirLayoutsLength
answers_have_their_layouts_length x h scheme words = length-answer scheme x.plan h.current words

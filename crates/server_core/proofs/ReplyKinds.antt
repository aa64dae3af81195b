-- Replies have the kinds that a setting's streams have.
use Rattle.std.proofs.Common.{◌≡◌, ◌^◌, ◌+◌, ℕ, Bool, true, false, List, Option, Some, None, length, refl, sym, ap, subst, ◌∙◌, inl, inr}
use Rattle.std.specs.Prelude.{◌==◌, nat_le, nat_lt, if◌then◌else◌}
use Rattle.std.proofs.lemmas.Bool.{cases_Bool}
use Rattle.digit_pack.specs.Layout.{is_layout}
use Rattle.pir_schemes.specs.declared.scheme.Scheme.{Scheme}
use Rattle.pir_schemes.specs.Schemes.{scheme_of_byte}
use Rattle.pir_schemes.specs.Plans.{accepts_profile, fits, shape_at}
use Rattle.version_store.specs.Histories.{History, current_version, delta_rows, changes_since}
use Rattle.frame_codec.specs.declared.frame.Frame.{Frame}
use Rattle.frame_codec.specs.declared.frame.Frame.TheVariants.{Load, Hello, HintAsk, DeltaAsk, Query, Edit, Publish, Bye, Append, ChangesAsk, Welcome, HintPart, Delta, Answer, Stale, Done, NoDelta, Changes, Refused}
use Rattle.server_core.specs.declared.standing.Standing.{Standing}
use Rattle.server_core.specs.Serving.{AfterFrame, Setting, is_wide_setting, is_reader_key, is_publisher_key, is_welcome, is_publisher, has_part, words_asked, most_entry_bytes, hint_asked, query_asked, delta_asked, changes_asked, after_frame}
use Rattle.server_core.specs.Laws.{HasKnownKind, RepliesHaveKnownKinds}

-- an outcome whose reply has a kind of the setting's streams
abbrev Known : Setting → AfterFrame → Type 0
Known x o = HasKnownKind x o.reply

-- of two outcomes that have one, either has
either : (x : Setting) (b : Bool) (o p : AfterFrame) → Known x o → Known x p → Known x (if b then o else p)
either x true o p k l = k
either x false o p k l = l

hint_known : (x : Setting) (h : History) (st : Standing) (scheme : Option Scheme) (version part : ℕ) → Known x (hint_asked x h st scheme version part)
hint_known x h st None version part = refl
hint_known x h st (Some s) version part =
    either x (version == current_version h) _ _ (either x (has_part x s h.current part) _ _ refl refl) refl

query_known : (x : Setting) (h : History) (st : Standing) (scheme : Option Scheme) (version : ℕ) (words : List ℕ) →
    Known x (query_asked x h st scheme version words)
query_known x h st None version words = refl
query_known x h st (Some s) version words =
    either x (version == current_version h) _ _ (either x (length words == words_asked x s h.current) _ _ refl refl) refl

delta_known : (x : Setting) (h : History) (st : Standing) (since : ℕ) (rows : Option (List ℕ)) → Known x (delta_asked x h st since rows)
delta_known x h st since None = refl
delta_known x h st since (Some rows) = either x (nat_le (length rows) 1024) _ _ refl refl

changes_known : (x : Setting) (h : History) (st : Standing) (since : ℕ) (found : Option (List ℕ)) → is_wide_setting x ≡ true →
    Known x (changes_asked x h st since found)
changes_known x h st since None wide = refl
changes_known x h st since (Some entries) wide = rw wide refl

changes_ask_known : (x : Setting) (h : History) (st : Standing) (since : ℕ) → Known x (after_frame x h st (ChangesAsk since))
changes_ask_known x h st since = elim (cases_Bool (is_wide_setting x)) [
  | inl wide ↦ rw wide (either x (is_welcome st) _ _ (changes_known x h st since (changes_since x.plan h since (most_entry_bytes x)) wide) refl)
  | inr ordinary ↦ rw ordinary refl
]

pub replies_known : RepliesHaveKnownKinds
replies_known x h st (Hello profile key) =
    either x (accepts_profile x.plan profile) _ _ (either x (is_reader_key key) _ _ refl (either x (is_publisher_key x key) _ _ refl refl)) refl
replies_known x h st (HintAsk scheme version part) = either x (is_welcome st) _ _ (hint_known x h st (scheme_of_byte scheme) version part) refl
replies_known x h st (DeltaAsk since) = either x (is_welcome st) _ _ (delta_known x h st since (delta_rows x.plan h since)) refl
replies_known x h st (Query scheme version words) = either x (is_welcome st) _ _ (query_known x h st (scheme_of_byte scheme) version words) refl
replies_known x h st (Edit index bytes) =
    either x (is_welcome st) _ _ (either x (is_publisher st) _ _
    (either x (nat_lt index (length h.draft)) _ _ (either x (fits x.plan bytes) _ _ refl refl) refl) refl) refl
replies_known x h st (Append bytes) =
    either x (is_welcome st) _ _ (either x (is_publisher st) _ _
    (either x (fits x.plan bytes) _ _ (either x (is_layout (shape_at x.plan (length h.draft + 1))) _ _ refl refl) refl) refl) refl
replies_known x h st Publish =
    either x (is_welcome st) _ _ (either x (is_publisher st) _ _
    (either x h.marked _ _ (either x (current_version h + 1 == 2 ^ 64) _ _ refl refl) refl) refl) refl
replies_known x h st Bye = tt
replies_known x h st (ChangesAsk since) = changes_ask_known x h st since
replies_known x h st (Load record_len groups width records) = refl
replies_known x h st (Welcome profile width record_len groups count version dimension seed) = refl
replies_known x h st (HintPart scheme version part words) = refl
replies_known x h st (Delta since now count rows) = refl
replies_known x h st (Answer scheme version words) = refl
replies_known x h st (Stale version count) = refl
replies_known x h st (Done version) = refl
replies_known x h st (NoDelta version count) = refl
replies_known x h st (Changes since now count entries) = refl
replies_known x h st (Refused code) = refl

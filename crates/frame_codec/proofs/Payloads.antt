-- What each kind's payload says.
use Rattle.std.proofs.Common.{◌≡◌, ℕ, ◌+◌, ◌*◌, ◌/◌, ◌%◌, ◌^◌, ◌<◌, ◌≤◌, List, [], ◌∷◌, ◌++◌, length, get_or, drop, All, refl, sym, ap, ◌∙◌, arith}
use Rattle.std.specs.Prelude.{MatchBool, ◌==◌}
use Rattle.std.proofs.lemmas.List.{length-append, append-nil, nil_from_length, length-drop, drop-drop, drop_more}
use Rattle.std.proofs.lemmas.List.Elements.{All-from_get_or}
use Rattle.frame_codec.specs.declared.frame.Frame.{Frame}
use Rattle.frame_codec.specs.declared.frame.Frame.TheVariants.{Load, Hello, HintAsk, DeltaAsk, Query, Edit, Publish, Bye, Append, ChangesAsk, Welcome, HintPart, Delta, Answer, Stale, Done, NoDelta, Changes, Refused}
use Rattle.frame_codec.specs.Numbers.{number_bytes, number_in, word_bytes}
use Rattle.frame_codec.specs.Rows.{RowList, HasWholeRows}
use Rattle.frame_codec.specs.Frames.{kind_of, payload_of, HasFields, Stands, IsPayload, payload_size}
use Rattle.frame_codec.proofs.NumberBytes.{IsBytes, IsBytes-drop, prefix, length-number, length-words, length-words_in, number_in-lt, number_back, drop_number, words_in, words_encode, words_small}

-- the lengths that a kind's payload may have
abbrev pub HasLength : ℕ → List ℕ → Type 0
HasLength k p =
    MatchBool (k == 1) (5 ≤ length p) (
    MatchBool (k == 2) (length p ≡ 34) (
    MatchBool (k == 3) (length p ≡ 13) (
    MatchBool (k == 4) (length p ≡ 8) (
    MatchBool (k == 5) ((m : ℕ) × (length p ≡ 9 + 4 * m)) (
    MatchBool (k == 6) (4 ≤ length p) (
    MatchBool (k == 7) (length p ≡ 0) (
    MatchBool (k == 8) (length p ≡ 0) (
    MatchBool (k == 9) (Unit {0}) (
    MatchBool (k == 10) (length p ≡ 8) (
    MatchBool (k == 130) (length p ≡ 53) (
    MatchBool (k == 131) ((m : ℕ) × (length p ≡ 13 + 4 * m)) (
    MatchBool (k == 132) ((m : ℕ) × (length p ≡ 22 + 4 * (m * (number_in 2 (drop 20 p) + 1)))) (
    MatchBool (k == 133) ((m : ℕ) × (length p ≡ 9 + 4 * m)) (
    MatchBool (k == 134) (length p ≡ 12) (
    MatchBool (k == 135) (length p ≡ 8) (
    MatchBool (k == 136) (length p ≡ 12) (
    MatchBool (k == 138) (20 ≤ length p) (
    length p ≡ 1))))))))))))))))))

-- a scheme, a version and words
pub scheme_words_length : (scheme version : ℕ) (words : List ℕ) → length (scheme ∷ (number_bytes 8 version ++ word_bytes words)) ≡ 9 + 4 * length words
scheme_words_length scheme version words = omega (arith, length-append (number_bytes 8 version) (word_bytes words), length-number 8 version, length-words words)

pub payload_sized : (f : Frame) → length (payload_of f) ≡ payload_size f
unfolding payload_of
payload_sized (Load record_len groups width records) =
    omega (
      arith,
      length-append (number_bytes 2 record_len) (number_bytes 2 groups ++ (width ∷ records)),
      length-append (number_bytes 2 groups) (width ∷ records),
      length-number 2 record_len,
      length-number 2 groups,
    )
payload_sized (Hello profile key) = omega (arith, length-append (number_bytes 2 profile) key, length-number 2 profile)
payload_sized (HintAsk scheme version part) =
    omega (arith, length-append (number_bytes 8 version) (number_bytes 4 part), length-number 8 version, length-number 4 part)
payload_sized (Query scheme version words) = scheme_words_length scheme version words
payload_sized (DeltaAsk since) = length-number 8 since
payload_sized (Edit index bytes) = omega (arith, length-append (number_bytes 4 index) bytes, length-number 4 index)
payload_sized Publish = refl
payload_sized Bye = refl
payload_sized (Append bytes) = refl
payload_sized (ChangesAsk since) = length-number 8 since
payload_sized (Welcome profile width record_len groups count version dimension seed) = omega (arith, length-append {A = ℕ}, length-number)
payload_sized (HintPart scheme version part words) =
    omega (
      arith,
      length-append (number_bytes 8 version) (number_bytes 4 part ++ word_bytes words),
      length-append (number_bytes 4 part) (word_bytes words),
      length-number 8 version,
      length-number 4 part,
      length-words words,
    )
payload_sized (Delta since now count rows) = omega (arith, length-append {A = ℕ}, length-number, length-words)
payload_sized (Answer scheme version words) = scheme_words_length scheme version words
payload_sized (Stale version count) =
    omega (arith, length-append (number_bytes 8 version) (number_bytes 4 count), length-number 8 version, length-number 4 count)
payload_sized (Done version) = length-number 8 version
payload_sized (NoDelta version count) =
    omega (arith, length-append (number_bytes 8 version) (number_bytes 4 count), length-number 8 version, length-number 4 count)
payload_sized (Changes since now count entries) = omega (arith, length-append {A = ℕ}, length-number)
payload_sized (Refused code) = refl

-- the dimension in the payload of a Delta
dimension_back : (since now count : ℕ) (rows : RowList) → rows.dimension < 2 ^ 16 →
    number_in 2 (drop 20 (payload_of (Delta since now count rows))) ≡ rows.dimension
unfolding payload_of
dimension_back since now count rows small =
    let p20 : List ℕ = number_bytes 2 rows.dimension ++ word_bytes rows.words in
    let p16 : List ℕ = number_bytes 4 count ++ p20 in
    let p8 : List ℕ = number_bytes 8 now ++ p16 in
    let e : drop 20 (number_bytes 8 since ++ p8) ≡ p20 = sym (drop-drop 12 8 (number_bytes 8 since ++ p8)) ∙ ap (drop 12) (drop_number 8 since p8)
    ∙ sym (drop-drop 4 8 p8) ∙ ap (drop 4) (drop_number 8 now p16) ∙ drop_number 4 count p20 in
    ap (number_in 2) e ∙ number_back 2 rows.dimension (word_bytes rows.words) small

pub length-payload : (f : Frame) → HasFields f → HasLength (kind_of f) (payload_of f)
length-payload (Load record_len groups width records) fits = omega (arith, payload_sized (Load record_len groups width records))
length-payload (Hello profile key) fits = omega (arith, payload_sized (Hello profile key), fits.1)
length-payload (HintAsk scheme version part) fits = payload_sized (HintAsk scheme version part)
length-payload (Query scheme version words) fits = (length words, payload_sized (Query scheme version words))
length-payload (DeltaAsk since) fits = payload_sized (DeltaAsk since)
length-payload (Edit index bytes) fits = omega (arith, payload_sized (Edit index bytes))
length-payload Publish fits = payload_sized Publish
length-payload Bye fits = payload_sized Bye
length-payload (Append bytes) fits = tt
length-payload (ChangesAsk since) fits = payload_sized (ChangesAsk since)
length-payload (Welcome profile width record_len groups count version dimension seed) fits =
    omega (arith, payload_sized (Welcome profile width record_len groups count version dimension seed), fits.7)
length-payload (HintPart scheme version part words) fits = (length words, payload_sized (HintPart scheme version part words))
length-payload (Delta since now count rows) fits = (
  fits.4.count,
  rw (dimension_back since now count rows fits.3, ← fits.4.len) (payload_sized (Delta since now count rows)),
)
length-payload (Answer scheme version words) fits = (length words, payload_sized (Answer scheme version words))
length-payload (Stale version count) fits = payload_sized (Stale version count)
length-payload (Done version) fits = payload_sized (Done version)
length-payload (NoDelta version count) fits = payload_sized (NoDelta version count)
length-payload (Changes since now count entries) fits = omega (arith, payload_sized (Changes since now count entries))
length-payload (Refused code) fits = payload_sized (Refused code)

-- no payload of another length represents a frame of this kind
pub no_stands : (k : ℕ) (bytes : List ℕ) → (HasLength k bytes → ⊥) → (f : Frame) → Stands k bytes f → ⊥
no_stands k bytes bad f s = bad (rw (← s.kind, ← s.payload) (length-payload f s.fields))

-- ---- numbers in their places

-- a number at the beginning, if the others are known
pub number_first : (n : ℕ) (bytes : List ℕ) → IsBytes bytes → n ≤ length bytes → (x : ℕ) (more : List ℕ) → x ≡ number_in n bytes → more ≡ drop n bytes →
    number_bytes n x ++ more ≡ bytes
number_first n bytes fits le x more e rest = rw (e, rest) (prefix n bytes fits le)

-- a number that is all
pub number_alone : (n : ℕ) (bytes : List ℕ) → IsBytes bytes → length bytes ≡ n → (x : ℕ) → x ≡ number_in n bytes → number_bytes n x ≡ bytes
number_alone n bytes fits len x e =
    sym (append-nil (number_bytes n x))
    ∙ number_first n bytes fits (omega arith) x [] e (sym (nil_from_length (drop n bytes) (omega (arith, length-drop n bytes))))

-- one byte at the beginning
pub byte_first : (bytes : List ℕ) → 1 ≤ length bytes → get_or bytes 0 0 ∷ drop 1 bytes ≡ bytes
byte_first [] le = absurd (omega arith)
byte_first (b ∷ bytes) le = refl

-- ---- the kinds

pub is_load : (bytes : List ℕ) → IsBytes bytes → 5 ≤ length bytes → (record_len groups : ℕ) (records : List ℕ) → record_len < 2 ^ 16 → groups < 2 ^ 16 →
    record_len ≡ number_in 2 bytes → groups ≡ number_in 2 (drop 2 bytes) → records ≡ drop 5 bytes → All (λ b. b < 2 ^ 8) records
    → Stands 1 bytes (Load record_len groups (get_or bytes 4 0) records)
unfolding payload_of
is_load bytes fits le record_len groups records small small2 e e2 er all =
    let width : get_or bytes 4 0 ∷ records ≡ drop 2 (drop 2 bytes) = ap (λ (x : List ℕ). get_or bytes 4 0 ∷ x) er ∙ sym (drop_more bytes 4 0 (omega arith))
    ∙ sym (drop-drop 2 2 bytes) in
    let tail : number_bytes 2 groups ++ (get_or bytes 4 0 ∷ records) ≡ drop 2 bytes =
    number_first 2 (drop 2 bytes) (IsBytes-drop 2 bytes fits) (omega (arith, length-drop 2 bytes)) groups (get_or bytes 4 0 ∷ records) e2 width in
    record {
      kind = refl;
      payload = number_first 2 bytes fits (omega arith) record_len (number_bytes 2 groups ++ (get_or bytes 4 0 ∷ records)) e tail;
      fields = (small, small2, fits 4, all);
    }

pub is_hello : (bytes : List ℕ) → IsBytes bytes → length bytes ≡ 34 → (profile : ℕ) (key : List ℕ) → profile < 2 ^ 16 → profile ≡ number_in 2 bytes →
    key ≡ drop 2 bytes → All (λ b. b < 2 ^ 8) key → Stands 2 bytes (Hello profile key)
unfolding payload_of
is_hello bytes fits len profile key small e ek all = record {
  kind = refl;
  payload = number_first 2 bytes fits (omega arith) profile key e ek;
  fields = (small, ap length ek ∙ omega (arith, length-drop 2 bytes), all);
}

-- a version and a number of four bytes that are all
pub is_version_number : (bytes : List ℕ) → IsBytes bytes → length bytes ≡ 12 → (version x : ℕ) → version ≡ number_in 8 bytes → x ≡ number_in 4 (drop 8 bytes) →
    number_bytes 8 version ++ number_bytes 4 x ≡ bytes
is_version_number bytes fits len version x e e2 =
    let tail : number_bytes 4 x ≡ drop 8 bytes = number_alone 4 (drop 8 bytes) (IsBytes-drop 8 bytes fits) (omega (arith, length-drop 8 bytes)) x e2 in
    number_first 8 bytes fits (omega arith) version (number_bytes 4 x) e tail

pub is_hint_ask : (bytes : List ℕ) → IsBytes bytes → length bytes ≡ 13 → (version part : ℕ) → version < 2 ^ 64 → part < 2 ^ 32 →
    version ≡ number_in 8 (drop 1 bytes) → part ≡ number_in 4 (drop 9 bytes) → Stands 3 bytes (HintAsk (get_or bytes 0 0) version part)
unfolding payload_of
is_hint_ask bytes fits len version part small small2 e e2 =
    let e3 : part ≡ number_in 4 (drop 8 (drop 1 bytes)) = e2 ∙ ap (number_in 4) (sym (drop-drop 8 1 bytes)) in
    let tail : number_bytes 8 version ++ number_bytes 4 part ≡ drop 1 bytes =
    is_version_number (drop 1 bytes) (IsBytes-drop 1 bytes fits) (omega (arith, length-drop 1 bytes)) version part e e3 in
    record { kind = refl; payload = ap (λ (x : List ℕ). get_or bytes 0 0 ∷ x) tail ∙ byte_first bytes (omega arith); fields = (fits 0, small, small2) }

pub is_delta_ask : (bytes : List ℕ) → IsBytes bytes → length bytes ≡ 8 → (since : ℕ) → since < 2 ^ 64 → since ≡ number_in 8 bytes →
    Stands 4 bytes (DeltaAsk since)
unfolding payload_of
is_delta_ask bytes fits len since small e = record { kind = refl; payload = number_alone 8 bytes fits len since e; fields = small }

pub is_changes_ask : (bytes : List ℕ) → IsBytes bytes → length bytes ≡ 8 → (since : ℕ) → since < 2 ^ 64 → since ≡ number_in 8 bytes →
    Stands 10 bytes (ChangesAsk since)
unfolding payload_of
is_changes_ask bytes fits len since small e = record { kind = refl; payload = number_alone 8 bytes fits len since e; fields = small }

pub is_edit : (bytes : List ℕ) → IsBytes bytes → 4 ≤ length bytes → (index : ℕ) (content : List ℕ) → index < 2 ^ 32 → index ≡ number_in 4 bytes →
    content ≡ drop 4 bytes → All (λ b. b < 2 ^ 8) content → Stands 6 bytes (Edit index content)
unfolding payload_of
is_edit bytes fits le index content small e ec all = record { kind = refl; payload = number_first 4 bytes fits le index content e ec; fields = (small, all) }

pub is_publish : (bytes : List ℕ) → length bytes ≡ 0 → Stands 7 bytes Publish
unfolding payload_of
is_publish bytes e = record { kind = refl; payload = sym (nil_from_length bytes e); fields = tt }

-- the fields of a welcome, as they are in its payload
pub record WelcomeFields (bytes : List ℕ) (profile record_len groups count version dimension : ℕ) (seed : List ℕ) : Type 0 where
  pub profile_is : profile ≡ number_in 2 bytes
  pub record_len_is : record_len ≡ number_in 2 (drop 3 bytes)
  pub groups_is : groups ≡ number_in 2 (drop 5 bytes)
  pub count_is : count ≡ number_in 4 (drop 7 bytes)
  pub version_is : version ≡ number_in 8 (drop 11 bytes)
  pub dimension_is : dimension ≡ number_in 2 (drop 19 bytes)
  pub seed_is : seed ≡ drop 21 bytes

-- a number after the first i bytes
number_at : (i n j : ℕ) (bytes : List ℕ) → IsBytes bytes → i + n ≡ j → j ≤ length bytes → (x : ℕ) (more : List ℕ) → x ≡ number_in n (drop i bytes) →
    more ≡ drop j bytes → number_bytes n x ++ more ≡ drop i bytes
number_at i n j bytes fits place le x more e rest =
    number_first n (drop i bytes) (IsBytes-drop i bytes fits) (omega (arith, length-drop i bytes)) x more e (rest ∙ ap (λ (k : ℕ). drop k bytes) (sym place)
    ∙ sym (drop-drop n i bytes))

pub is_welcome : (bytes : List ℕ) → IsBytes bytes → length bytes ≡ 53 → (profile record_len groups count version dimension : ℕ) (seed : List ℕ) →
    WelcomeFields bytes profile record_len groups count version dimension seed
    → profile < 2 ^ 16 → record_len < 2 ^ 16 → groups < 2 ^ 16 → count < 2 ^ 32 → version < 2 ^ 64 → dimension < 2 ^ 16 → All (λ b. b < 2 ^ 8) seed
    → Stands 130 bytes (Welcome profile (get_or bytes 2 0) record_len groups count version dimension seed)
unfolding payload_of
is_welcome bytes fits len profile record_len groups count version dimension seed w sp sr sg sc sv sd all =
    let at19 : number_bytes 2 dimension ++ seed ≡ drop 19 bytes = number_at 19 2 21 bytes fits refl (omega arith) dimension seed w.dimension_is w.seed_is in
    let at11 : number_bytes 8 version ++ (number_bytes 2 dimension ++ seed) ≡ drop 11 bytes =
    number_at 11 8 19 bytes fits refl (omega arith) version (number_bytes 2 dimension ++ seed) w.version_is at19 in
    let at7 : number_bytes 4 count ++ (number_bytes 8 version ++ (number_bytes 2 dimension ++ seed)) ≡ drop 7 bytes =
    number_at 7 4 11 bytes fits refl (omega arith) count _ w.count_is at11 in
    let at5 : number_bytes 2 groups ++ (number_bytes 4 count ++ (number_bytes 8 version ++ (number_bytes 2 dimension ++ seed))) ≡ drop 5 bytes =
    number_at 5 2 7 bytes fits refl (omega arith) groups _ w.groups_is at7 in
    let at3 : number_bytes 2 record_len
    ++ (number_bytes 2 groups ++ (number_bytes 4 count ++ (number_bytes 8 version ++ (number_bytes 2 dimension ++ seed)))) ≡ drop 3 bytes =
    number_at 3 2 5 bytes fits refl (omega arith) record_len _ w.record_len_is at5 in
    let at2 : get_or bytes 2 0 ∷
    (number_bytes 2 record_len ++ (number_bytes 2 groups ++ (number_bytes 4 count ++ (number_bytes 8 version ++ (number_bytes 2 dimension ++ seed)))))
    ≡ drop 2 bytes = ap (λ (x : List ℕ). get_or bytes 2 0 ∷ x) at3 ∙ sym (drop_more bytes 2 0 (omega arith)) in
    record {
      kind = refl;
      payload = number_first 2 bytes fits (omega arith) profile _ w.profile_is at2;
      fields = (sp, fits 2, sr, sg, sc, sv, sd, ap length w.seed_is ∙ omega (arith, length-drop 21 bytes), all);
    }

pub is_hint_part : (bytes : List ℕ) → IsBytes bytes → 13 ≤ length bytes → (version part : ℕ) (words : List ℕ) → version < 2 ^ 64 → part < 2 ^ 32 →
    version ≡ number_in 8 (drop 1 bytes) → part ≡ number_in 4 (drop 9 bytes) → word_bytes words ≡ drop 13 bytes → All (λ w. w < 2 ^ 32) words
    → Stands 131 bytes (HintPart (get_or bytes 0 0) version part words)
unfolding payload_of
is_hint_part bytes fits le version part words small small2 e e2 ew all =
    let at9 : number_bytes 4 part ++ word_bytes words ≡ drop 9 bytes = number_at 9 4 13 bytes fits refl le part (word_bytes words) e2 ew in
    let at1 : number_bytes 8 version ++ (number_bytes 4 part ++ word_bytes words) ≡ drop 1 bytes =
    number_at 1 8 9 bytes fits refl (omega arith) version (number_bytes 4 part ++ word_bytes words) e at9 in
    record { kind = refl; payload = ap (λ (x : List ℕ). get_or bytes 0 0 ∷ x) at1 ∙ byte_first bytes (omega arith); fields = (fits 0, small, small2, all) }

-- the fields of a Delta, as they are in its payload
pub record DeltaFields (bytes : List ℕ) (since now count : ℕ) (rows : RowList) : Type 0 where
  pub since_is : since ≡ number_in 8 bytes
  pub now_is : now ≡ number_in 8 (drop 8 bytes)
  pub count_is : count ≡ number_in 4 (drop 16 bytes)
  pub dimension_is : rows.dimension ≡ number_in 2 (drop 20 bytes)
  pub words_are : word_bytes rows.words ≡ drop 22 bytes

pub is_delta : (bytes : List ℕ) → IsBytes bytes → 22 ≤ length bytes → (since now count : ℕ) (rows : RowList) → DeltaFields bytes since now count rows →
    since < 2 ^ 64 → now < 2 ^ 64 → count < 2 ^ 32 → rows.dimension < 2 ^ 16 → HasWholeRows rows → All (λ w. w < 2 ^ 32) rows.words
    → Stands 132 bytes (Delta since now count rows)
unfolding payload_of
is_delta bytes fits le since now count rows d ss sn sc sd whole all =
    let at20 : number_bytes 2 rows.dimension ++ word_bytes rows.words ≡ drop 20 bytes =
    number_at 20 2 22 bytes fits refl le rows.dimension (word_bytes rows.words) d.dimension_is d.words_are in
    let at16 : number_bytes 4 count ++ (number_bytes 2 rows.dimension ++ word_bytes rows.words) ≡ drop 16 bytes =
    number_at 16 4 20 bytes fits refl (omega arith) count _ d.count_is at20 in
    let at8 : number_bytes 8 now ++ (number_bytes 4 count ++ (number_bytes 2 rows.dimension ++ word_bytes rows.words)) ≡ drop 8 bytes =
    number_at 8 8 16 bytes fits refl (omega arith) now _ d.now_is at16 in
    record { kind = refl; payload = number_first 8 bytes fits (omega arith) since _ d.since_is at8; fields = (ss, sn, sc, sd, whole, all) }

-- the fields of changed records, as they are in the payload
pub record ChangesFields (bytes : List ℕ) (since now count : ℕ) (entries : List ℕ) : Type 0 where
  pub since_is : since ≡ number_in 8 bytes
  pub now_is : now ≡ number_in 8 (drop 8 bytes)
  pub count_is : count ≡ number_in 4 (drop 16 bytes)
  pub entries_are : entries ≡ drop 20 bytes

pub is_changes : (bytes : List ℕ) → IsBytes bytes → 20 ≤ length bytes → (since now count : ℕ) (entries : List ℕ) → ChangesFields bytes since now count entries →
    since < 2 ^ 64 → now < 2 ^ 64 → count < 2 ^ 32 → All (λ b. b < 2 ^ 8) entries → Stands 138 bytes (Changes since now count entries)
unfolding payload_of
is_changes bytes fits le since now count entries d ss sn sc all =
    let at16 : number_bytes 4 count ++ entries ≡ drop 16 bytes = number_at 16 4 20 bytes fits refl le count entries d.count_is d.entries_are in
    let at8 : number_bytes 8 now ++ (number_bytes 4 count ++ entries) ≡ drop 8 bytes =
    number_at 8 8 16 bytes fits refl (omega (arith, le)) now (number_bytes 4 count ++ entries) d.now_is at16 in
    record {
      kind = refl;
      payload = number_first 8 bytes fits (omega (arith, le)) since (number_bytes 8 now ++ (number_bytes 4 count ++ entries)) d.since_is at8;
      fields = (ss, sn, sc, all);
    }

-- a scheme, a version and words that are all
pub is_scheme_words : (bytes : List ℕ) → IsBytes bytes → 9 ≤ length bytes → (version : ℕ) (words : List ℕ) → version ≡ number_in 8 (drop 1 bytes) →
    word_bytes words ≡ drop 9 bytes
    → get_or bytes 0 0 ∷ (number_bytes 8 version ++ word_bytes words) ≡ bytes
is_scheme_words bytes fits le version words e ew =
    let rest : word_bytes words ≡ drop 8 (drop 1 bytes) = ew ∙ sym (drop-drop 8 1 bytes) in
    ap (λ (x : List ℕ). get_or bytes 0 0 ∷ x)
    (number_first 8 (drop 1 bytes) (IsBytes-drop 1 bytes fits) (omega (arith, length-drop 1 bytes)) version (word_bytes words) e rest)
    ∙ byte_first bytes (omega arith)

pub is_query : (bytes : List ℕ) (scheme version : ℕ) (words : List ℕ) → scheme ∷ (number_bytes 8 version ++ word_bytes words) ≡ bytes →
    HasFields (Query scheme version words) → Stands 5 bytes (Query scheme version words)
unfolding payload_of
is_query bytes scheme version words e fits = record { kind = refl; payload = e; fields = fits }

pub is_bye : (bytes : List ℕ) → length bytes ≡ 0 → Stands 8 bytes Bye
unfolding payload_of
is_bye bytes e = record { kind = refl; payload = sym (nil_from_length bytes e); fields = tt }

pub is_append : (bytes content : List ℕ) → content ≡ bytes → All (λ b. b < 2 ^ 8) content → Stands 9 bytes (Append content)
unfolding payload_of
is_append bytes content e all = record { kind = refl; payload = e; fields = all }

pub is_answer : (bytes : List ℕ) (scheme version : ℕ) (words : List ℕ) → scheme ∷ (number_bytes 8 version ++ word_bytes words) ≡ bytes →
    HasFields (Answer scheme version words) → Stands 133 bytes (Answer scheme version words)
unfolding payload_of
is_answer bytes scheme version words e fits = record { kind = refl; payload = e; fields = fits }

pub is_stale : (bytes : List ℕ) → IsBytes bytes → length bytes ≡ 12 → (version count : ℕ) → version < 2 ^ 64 → count < 2 ^ 32 → version ≡ number_in 8 bytes →
    count ≡ number_in 4 (drop 8 bytes) → Stands 134 bytes (Stale version count)
unfolding payload_of
is_stale bytes fits len version count small small2 e e2 =
    let tail : number_bytes 4 count ≡ drop 8 bytes = number_alone 4 (drop 8 bytes) (IsBytes-drop 8 bytes fits) (omega (arith, length-drop 8 bytes)) count e2 in
    record { kind = refl; payload = number_first 8 bytes fits (omega arith) version (number_bytes 4 count) e tail; fields = (small, small2) }

pub is_done : (bytes : List ℕ) → IsBytes bytes → length bytes ≡ 8 → (version : ℕ) → version < 2 ^ 64 → version ≡ number_in 8 bytes →
    Stands 135 bytes (Done version)
unfolding payload_of
is_done bytes fits len version small e = record { kind = refl; payload = number_alone 8 bytes fits len version e; fields = small }

pub is_no_delta : (bytes : List ℕ) → IsBytes bytes → length bytes ≡ 12 → (version count : ℕ) → version < 2 ^ 64 → count < 2 ^ 32 →
    version ≡ number_in 8 bytes → count ≡ number_in 4 (drop 8 bytes) → Stands 136 bytes (NoDelta version count)
unfolding payload_of
is_no_delta bytes fits len version count small small2 e e2 =
    record { kind = refl; payload = is_version_number bytes fits len version count e e2; fields = (small, small2) }

pub is_refused : (bytes : List ℕ) → IsBytes bytes → length bytes ≡ 1 → Stands 143 bytes (Refused (get_or bytes 0 0))
unfolding payload_of
is_refused bytes fits e = record {
  kind = refl;
  payload = ap (λ (x : List ℕ). get_or bytes 0 0 ∷ x) (sym (nil_from_length (drop 1 bytes) (omega (arith, length-drop 1 bytes))))
      ∙ byte_first bytes (omega arith);
  fields = fits 0;
}

-- a multiple of a row's length
pub rows_divide : (n count : ℕ) → count % (n + 1) ≡ 0 → count ≡ (count / (n + 1)) * (n + 1)
rows_divide n count zero = omega arith

-- words that encode some bytes are whole rows, if their number is a multiple of a row's
pub whole_rows : (n : ℕ) (words bytes : List ℕ) (count : ℕ) → word_bytes words ≡ bytes → length bytes ≡ 4 * count → count % (n + 1) ≡ 0 →
    HasWholeRows (record { dimension = n; words = words })
whole_rows n words bytes count e len zero =
    let size : length words ≡ count = omega (arith, length-words words, ap length e) in
    record { count = count / (n + 1); len = size ∙ rows_divide n count zero }

-- ---- the payloads of kinds that need memory

bytes_after : (n : ℕ) (bytes : List ℕ) → IsBytes bytes → All (λ b. b < 2 ^ 8) (drop n bytes)
bytes_after n bytes fits = All-from_get_or (λ b. b < 2 ^ 8) (drop n bytes) 0 (λ k _. IsBytes-drop n bytes fits k)

pub has_load : (bytes : List ℕ) → IsBytes bytes → 5 ≤ length bytes → IsPayload 1 bytes
has_load bytes fits le = (
  Load (number_in 2 bytes) (number_in 2 (drop 2 bytes)) (get_or bytes 4 0) (drop 5 bytes),
  is_load bytes fits le _ _ _ (number_in-lt 2 bytes fits (omega arith))
      (number_in-lt 2 (drop 2 bytes) (IsBytes-drop 2 bytes fits) (omega (arith, length-drop 2 bytes)))
      refl refl refl (bytes_after 5 bytes fits),
)

pub has_edit : (bytes : List ℕ) → IsBytes bytes → 4 ≤ length bytes → IsPayload 6 bytes
has_edit bytes fits le = (
  Edit (number_in 4 bytes) (drop 4 bytes),
  is_edit bytes fits le _ _ (number_in-lt 4 bytes fits (omega arith)) refl refl (bytes_after 4 bytes fits),
)

pub has_changes : (bytes : List ℕ) → IsBytes bytes → 20 ≤ length bytes → IsPayload 138 bytes
has_changes bytes fits le = (
  Changes (number_in 8 bytes) (number_in 8 (drop 8 bytes)) (number_in 4 (drop 16 bytes)) (drop 20 bytes),
  is_changes bytes fits le _ _ _ _ (record { since_is = refl; now_is = refl; count_is = refl; entries_are = refl })
      (number_in-lt 8 bytes fits (omega (arith, le)))
      (number_in-lt 8 (drop 8 bytes) (IsBytes-drop 8 bytes fits) (omega (arith, length-drop 8 bytes, le)))
      (number_in-lt 4 (drop 16 bytes) (IsBytes-drop 16 bytes fits) (omega (arith, length-drop 16 bytes, le)))
      (bytes_after 20 bytes fits),
)

pub has_append : (bytes : List ℕ) → IsBytes bytes → IsPayload 9 bytes
has_append bytes fits = (Append bytes, is_append bytes bytes refl (bytes_after 0 bytes fits))

pub has_hint_part : (bytes : List ℕ) → IsBytes bytes → (n : ℕ) → length bytes ≡ 13 + 4 * n → IsPayload 131 bytes
has_hint_part bytes fits n len =
    let rest : length (drop 13 bytes) ≡ 4 * n = omega (arith, length-drop 13 bytes) in
    let beyond : IsBytes (drop 13 bytes) = IsBytes-drop 13 bytes fits in (
      HintPart (get_or bytes 0 0) (number_in 8 (drop 1 bytes)) (number_in 4 (drop 9 bytes)) (words_in n (drop 13 bytes)),
      is_hint_part bytes fits (omega arith) _ _ _ (number_in-lt 8 (drop 1 bytes) (IsBytes-drop 1 bytes fits) (omega (arith, length-drop 1 bytes)))
          (number_in-lt 4 (drop 9 bytes) (IsBytes-drop 9 bytes fits) (omega (arith, length-drop 9 bytes))) refl refl
          (words_encode n (drop 13 bytes) beyond rest) (words_small n (drop 13 bytes) beyond rest),
    )

pub has_delta : (bytes : List ℕ) → IsBytes bytes → (count : ℕ) → length bytes ≡ 22 + 4 * (count * (number_in 2 (drop 20 bytes) + 1)) → IsPayload 132 bytes
has_delta bytes fits count len =
    let n : ℕ = count * (number_in 2 (drop 20 bytes) + 1) in
    let le : 22 ≤ length bytes = omega arith in
    let rest : length (drop 22 bytes) ≡ 4 * n = omega (arith, length-drop 22 bytes) in
    let beyond : IsBytes (drop 22 bytes) = IsBytes-drop 22 bytes fits in
    let rows : RowList = record { dimension = number_in 2 (drop 20 bytes); words = words_in n (drop 22 bytes) } in
    let fields : DeltaFields bytes (number_in 8 bytes) (number_in 8 (drop 8 bytes)) (number_in 4 (drop 16 bytes)) rows = record {
      since_is = refl;
      now_is = refl;
      count_is = refl;
      dimension_is = refl;
      words_are = words_encode n (drop 22 bytes) beyond rest;
    } in (
      Delta (number_in 8 bytes) (number_in 8 (drop 8 bytes)) (number_in 4 (drop 16 bytes)) rows,
      is_delta bytes fits le _ _ _ rows fields (number_in-lt 8 bytes fits (omega arith))
          (number_in-lt 8 (drop 8 bytes) (IsBytes-drop 8 bytes fits) (omega (arith, length-drop 8 bytes)))
          (number_in-lt 4 (drop 16 bytes) (IsBytes-drop 16 bytes fits) (omega (arith, length-drop 16 bytes)))
          (number_in-lt 2 (drop 20 bytes) (IsBytes-drop 20 bytes fits) (omega (arith, length-drop 20 bytes)))
          (record { count = count; len = length-words_in n (drop 22 bytes) })
          (words_small n (drop 22 bytes) beyond rest),
    )

-- the fields of a scheme, a version and words
pub scheme_fields : (bytes : List ℕ) → IsBytes bytes → (n : ℕ) → length bytes ≡ 9 + 4 * n →
    (get_or bytes 0 0 ∷ (number_bytes 8 (number_in 8 (drop 1 bytes)) ++ word_bytes (words_in n (drop 9 bytes))) ≡ bytes)
    × ((get_or bytes 0 0 < 2 ^ 8) × (number_in 8 (drop 1 bytes) < 2 ^ 64) × All (λ w. w < 2 ^ 32) (words_in n (drop 9 bytes)))
scheme_fields bytes fits n len =
    let rest : length (drop 9 bytes) ≡ 4 * n = omega (arith, length-drop 9 bytes) in
    let beyond : IsBytes (drop 9 bytes) = IsBytes-drop 9 bytes fits in (
      is_scheme_words bytes fits (omega arith) _ _ refl (words_encode n (drop 9 bytes) beyond rest),
      (fits 0, number_in-lt 8 (drop 1 bytes) (IsBytes-drop 1 bytes fits) (omega (arith, length-drop 1 bytes)), words_small n (drop 9 bytes) beyond rest),
    )

pub has_query : (bytes : List ℕ) → IsBytes bytes → (n : ℕ) → length bytes ≡ 9 + 4 * n → IsPayload 5 bytes
has_query bytes fits n len = let f = scheme_fields bytes fits n len in (Query _ _ _, is_query bytes _ _ _ f.0 f.1)

pub has_answer : (bytes : List ℕ) → IsBytes bytes → (n : ℕ) → length bytes ≡ 9 + 4 * n → IsPayload 133 bytes
has_answer bytes fits n len = let f = scheme_fields bytes fits n len in (Answer _ _ _, is_answer bytes _ _ _ f.0 f.1)

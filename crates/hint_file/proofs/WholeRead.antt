-- What is made of a hint's file that is read from its beginning to its end.
use Rattle.std.proofs.Common.{◌≡◌, ◌≢◌, ℕ, ◌+◌, ◌*◌, ◌^◌, ◌<◌, ◌≤◌, List, [], ◌++◌, length, Option, Some, None, Result, Ok, Err, IfSome, IfOk, refl, sym, ap, subst, ◌∙◌, append_assoc, arith}
use Rattle.std.proofs.lemmas.List.{length-append, append-nil, nil_from_length}
use Rattle.std.specs.Io.KnownBytes.{Consumes}
use Rattle.std.proofs.KnownBytes.{Consumes-nil, Consumes-trans}
use Rattle.sha2.specs.Sha256.{sha256}
use Rattle.frame_codec.specs.Numbers.{word_bytes}
use Rattle.frame_codec.proofs.NumberBytes.{length-words}
use Rattle.matrix_u32.specs.Matrix.{most_words}
use Rattle.client_core.specs.declared.state.ServerInfo.{ServerInfo}
use Rattle.client_core.specs.declared.state.Hint.{Hint}
use Rattle.hint_file.specs.declared.heads.HintFields.{HintFields}
use Rattle.hint_file.specs.declared.heads.KeptHead.{KeptHead}
use Rattle.hint_file.specs.declared.hints.KeptHint.{KeptHint}
use Rattle.hint_file.specs.Files.{
  hint_magic,
  field_bytes,
  head_after,
  fields_of,
  file_after,
  hint_bytes,
  part_count,
  part_digests,
  AreKeepable,
  IsKeepable,
  HasDigests,
}
use Rattle.hint_file.proofs.Bytes.{cut_prefix, rest_one}
use Rattle.hint_file.proofs.FieldsBack.{length-fields}
use Rattle.hint_file.proofs.HeadBytes.{inside, length-head, head_pieces, as_many, has_digests, same_file, words_wanted}

-- what follows from the bytes that are left holds of all
pub left_of_all : (a b : Option (List ℕ)) (bs : List ℕ) (P Q : List ℕ → Type 0) → Consumes a b bs → IfSome b Q → ((ys : List ℕ) → Q ys → P (bs ++ ys)) →
    IfSome a P
left_of_all None b bs P Q p q h = tt
left_of_all (Some x) None bs P Q p q h = absurd p
left_of_all (Some x) (Some y) bs P Q p q h = subst P (sym p) (h y q)

-- so it is if it holds whatever is left
pub whatever_is_left : (a b : Option (List ℕ)) (bs : List ℕ) (P : List ℕ → Type 0) → Consumes a b bs → ((ys : List ℕ) → P (bs ++ ys)) → IfSome a P
whatever_is_left None b bs P p h = tt
whatever_is_left (Some x) None bs P p h = absurd p
whatever_is_left (Some x) (Some y) bs P p h = subst P (sym p) (h y)

-- what follows from all bytes
pub some_more : (a : Option (List ℕ)) (P Q : List ℕ → Type 0) → IfSome a P → ((xs : List ℕ) → P xs → Q xs) → IfSome a Q
some_more None P Q p h = tt
some_more (Some x) P Q p h = h x p

-- ---- the words

-- no words were read
pub words_begin : (a : Option (List ℕ)) (words : List ℕ) → words ≡ [] → Consumes a a (word_bytes words)
unfolding word_bytes
words_begin a words e = subst (λ (x : List ℕ). Consumes a a (word_bytes x)) (sym e) (Consumes-nil a)

-- the bytes of all words that were read
pub words_more : (a b c : Option (List ℕ)) (old new part : List ℕ) → Consumes a b (word_bytes old) → Consumes b c part → word_bytes new ≡ word_bytes old ++ part →
    Consumes a c (word_bytes new)
words_more a b c old new part before taken e = subst (Consumes a c) (sym e) (Consumes-trans a b c (word_bytes old) part before taken)

-- and how many they are
pub count_more : (old new part : List ℕ) (n : ℕ) → word_bytes new ≡ word_bytes old ++ part → length part ≡ 4 * n → length new ≡ length old + n
count_more old new part n e len = omega (arith, ap length e, length-append (word_bytes old) part, length-words new, length-words old, len)

-- fewer bytes than the words that are wanted have
pub words_short : (a b : Option (List ℕ)) (words : List ℕ) (n count : ℕ) → Consumes a b (word_bytes words) → IfSome b (λ ys. length ys < 4 * n) →
    length words + n ≤ count → IfSome a (λ bytes. length bytes < 4 * count)
words_short a b words n count before short le =
    left_of_all a b (word_bytes words) (λ bytes. length bytes < 4 * count) (λ ys. length ys < 4 * n) before short
    (λ ys few. omega (arith, few, le, length-append (word_bytes words) ys, length-words words))

-- ---- the head

-- bytes that go on from no prefix to a head
abbrev pub HasNoHead : List ℕ → List ℕ → Type 0
HasNoHead front bytes =
    (f : HintFields) (digests rest : List ℕ) → AreKeepable f → HasDigests f digests → front ++ bytes ≢ head_after front f digests ++ rest

-- what the bytes after a prefix are, when a head begins with it
behind : (front bytes digests rest : List ℕ) (f : HintFields) → front ++ bytes ≡ head_after front f digests ++ rest →
    bytes ≡ field_bytes f ++ (digests ++ (sha256 (inside front f digests) ++ rest))
behind front bytes digests rest f e = rest_one front bytes _ (e ∙ head_pieces front digests rest f)

-- bytes that are fields, with a matrix whose sides are numbers of 64 bits
pub record AreFields (x : List ℕ) (g : HintFields) : Type 0 where
  pub seed : length g.known.plan.seed ≡ 32
  pub rows : g.rows < 2 ^ 64
  pub cols : g.cols < 2 ^ 64
  pub read : field_bytes g ≡ x

pub as_fields : (x shown : List ℕ) (g : HintFields) → shown ≡ x → length g.known.plan.seed ≡ 32 → (g.rows < 2 ^ 64) × (g.cols < 2 ^ 64) →
    field_bytes g ≡ shown → AreFields x g
as_fields x shown g same seed sizes read = record {
  seed = seed;
  rows = sizes.0;
  cols = sizes.1;
  read = read ∙ same;
}

field_count : (x : List ℕ) (g : HintFields) → AreFields x g → length x ≡ 78
field_count x g is = ap length (sym is.read) ∙ length-fields g is.seed

-- a head that begins so has these fields
same_as_read : (front x ys digests rest : List ℕ) (g f : HintFields) → AreFields x g → AreKeepable f →
    front ++ (x ++ ys) ≡ head_after front f digests ++ rest → field_bytes g ≡ field_bytes f
same_as_read front x ys digests rest g f is k e =
    is.read
    ∙ (cut_prefix x (field_bytes f) ys _ (field_count x g is ∙ sym (length-fields f k.seed)) (behind front (x ++ ys) digests rest f e)).0

-- and as many digests
as_many_digests : (front x ys digests rest : List ℕ) (g f : HintFields) (len : ℕ) → AreFields x g → len ≡ 32 * part_count (4 * (g.rows * g.cols)) →
    AreKeepable f → HasDigests f digests → front ++ (x ++ ys) ≡ head_after front f digests ++ rest → len ≡ length digests
as_many_digests front x ys digests rest g f len is count k hd e =
    count ∙ ap (λ (n : ℕ). 32 * part_count (4 * n)) (as_many g f is.rows is.cols k (same_as_read front x ys digests rest g f is k e)) ∙ sym hd

pub too_short : (front bytes : List ℕ) → length bytes < 78 → HasNoHead front bytes
too_short front bytes short = λ f digests rest k hd e.
    absurd (omega (
      arith,
      short,
      ap length (behind front bytes digests rest f e),
      length-append (field_bytes f) (digests ++ (sha256 (inside front f digests) ++ rest)),
      length-fields f k.seed,
    ))

pub no_fields : (front x ys : List ℕ) → length x ≡ 78 → ((f : HintFields) → length f.known.plan.seed ≡ 32 → x ≢ field_bytes f) → HasNoHead front (x ++ ys)
no_fields front x ys len none = λ f digests rest k hd e.
    none f k.seed (cut_prefix x (field_bytes f) ys _ (len ∙ sym (length-fields f k.seed)) (behind front (x ++ ys) digests rest f e)).0

pub too_large : (front x ys : List ℕ) (g : HintFields) → AreFields x g → most_words < g.rows * g.cols → HasNoHead front (x ++ ys)
too_large front x ys g is large = λ f digests rest k hd e.
    absurd (omega (arith, large, k.small, as_many g f is.rows is.cols k (same_as_read front x ys digests rest g f is k e)))

pub cut_short : (front x ys : List ℕ) (g : HintFields) (len : ℕ) → AreFields x g → len ≡ 32 * part_count (4 * (g.rows * g.cols)) → length ys < len + 32 →
    HasNoHead front (x ++ ys)
cut_short front x ys g len is count short = λ f digests rest k hd e.
    absurd (omega (
      arith,
      short,
      ap length e,
      length-append front (x ++ ys),
      length-append x ys,
      field_count x g is,
      length-append (head_after front f digests) rest,
      length-head front digests f k.seed,
      as_many_digests front x ys digests rest g f len is count k hd e,
    ))

-- as many bytes as a head has are as long as the head
as_long : (front x others ys digests rest : List ℕ) (g f : HintFields) (len : ℕ) → AreFields x g → len ≡ 32 * part_count (4 * (g.rows * g.cols)) →
    length others ≡ len + 32 → AreKeepable f → HasDigests f digests → front ++ (x ++ (others ++ ys)) ≡ head_after front f digests ++ rest →
    length (front ++ (x ++ others)) ≡ length (head_after front f digests)
as_long front x others ys digests rest g f len is count many k hd e = omega (
  arith,
  length-append front (x ++ others),
  length-append x others,
  field_count x g is,
  many,
  length-head front digests f k.seed,
  as_many_digests front x (others ++ ys) digests rest g f len is count k hd e,
)

pub other_head : (front x others bytes ys : List ℕ) (g : HintFields) (len : ℕ) → AreFields x g → len ≡ 32 * part_count (4 * (g.rows * g.cols)) →
    bytes ≡ front ++ (x ++ others) → length others ≡ len + 32 →
    ((f : HintFields) (digests rest : List ℕ) → AreKeepable f → HasDigests f digests → bytes ≢ head_after front f digests ++ rest) →
    HasNoHead front ((x ++ others) ++ ys)
other_head front x others bytes ys g len is count all many never = λ f digests rest k hd e.
    let inner : front ++ (x ++ (others ++ ys)) ≡ head_after front f digests ++ rest = ap (λ (z : List ℕ). front ++ z) (sym (append_assoc x others ys)) ∙ e in
    let whole : (front ++ (x ++ others)) ++ ys ≡ head_after front f digests ++ rest = append_assoc front (x ++ others) ys ∙ e in
    let long = as_long front x others ys digests rest g f len is count many k hd inner in
    never f digests [] k hd (all ∙ (cut_prefix (front ++ (x ++ others)) (head_after front f digests) ys rest long whole).0 ∙ sym (append-nil (head_after front f digests)))

-- as many bytes as a head has are the head alone
pub head_alone : (front x others bytes digests rest : List ℕ) (g h : HintFields) (len : ℕ) → AreFields x g → len ≡ 32 * part_count (4 * (g.rows * g.cols)) →
    bytes ≡ front ++ (x ++ others) → length others ≡ len + 32 → AreKeepable h → HasDigests h digests → bytes ≡ head_after front h digests ++ rest →
    front ++ (x ++ others) ≡ head_after front h digests
head_alone front x others bytes digests rest g h len is count all many k hd e =
    let whole : front ++ (x ++ others) ≡ head_after front h digests ++ rest = sym all ∙ e in
    let inner : front ++ (x ++ (others ++ [])) ≡ head_after front h digests ++ rest = ap (λ (z : List ℕ). front ++ (x ++ z)) (append-nil others) ∙ whole in
    let long = as_long front x others [] digests rest g h len is count many k hd inner in
    (cut_prefix (front ++ (x ++ others)) (head_after front h digests) [] rest long (append-nil (front ++ (x ++ others)) ∙ whole)).0

pub head_consumed : {E : Type 0} (r : Result KeptHead E) (front x others bytes : List ℕ) (g : HintFields) (len : ℕ) (a b : Option (List ℕ)) → AreFields x g →
    len ≡ 32 * part_count (4 * (g.rows * g.cols)) → bytes ≡ front ++ (x ++ others) → length others ≡ len + 32 → Consumes a b (x ++ others) →
    IfOk r (λ head. (rest : List ℕ) × (bytes ≡ head_after front head.fields head.digests.items ++ rest)) →
    IfOk r (λ head. AreKeepable head.fields × HasDigests head.fields head.digests.items) →
    IfOk r (λ head. (rest : List ℕ) × (front ++ rest ≡ head_after front head.fields head.digests.items) × Consumes a b rest)
head_consumed (Ok head) front x others bytes g len a b is count all many taken read keep =
    (x ++ others, head_alone front x others bytes head.digests.items read.0 g head.fields len is count all many keep.0 keep.1 read.1, taken)
head_consumed (Err e) front x others bytes g len a b is count all many taken read keep = tt

-- ---- the whole file

-- bytes that go on from no prefix to a file
abbrev pub IsNoFile : List ℕ → List ℕ → Type 0
IsNoFile front bytes = (known : ServerInfo) (hint : Hint) → IsKeepable known hint → front ++ bytes ≢ file_after front known hint

pub no_file : (front bytes : List ℕ) → HasNoHead front bytes → IsNoFile front bytes
no_file front bytes never = λ known hint k e.
    never (fields_of known hint) (part_digests (word_bytes hint.matrix.words)) (word_bytes hint.matrix.words) k.fields (has_digests known hint k) e

-- what comes after a head
pub gone_on : (front r h ys : List ℕ) → front ++ r ≡ h → front ++ (r ++ ys) ≡ h ++ ys
gone_on front r h ys e = sym (append_assoc front r ys) ∙ ap (λ (x : List ℕ). x ++ ys) e

pub other_count : (front r digests ys : List ℕ) (f : HintFields) → front ++ r ≡ head_after front f digests → AreKeepable f → HasDigests f digests →
    length ys ≢ 4 * (f.rows * f.cols) → IsNoFile front (r ++ ys)
other_count front r digests ys f is k hd other = λ known hint kept e.
    let s = same_file front (front ++ (r ++ ys)) digests ys f known hint k hd kept (gone_on front r (head_after front f digests) ys is) e in
    other (ap length s.1.1 ∙ length-words hint.matrix.words ∙ ap (λ (n : ℕ). 4 * n) (words_wanted f known hint k kept s.0))

pub more_after : (front r digests words ys : List ℕ) (f : HintFields) → front ++ r ≡ head_after front f digests → AreKeepable f → HasDigests f digests →
    length words ≡ f.rows * f.cols → 0 < length ys → IsNoFile front ((r ++ word_bytes words) ++ ys)
more_after front r digests words ys f is k hd count some =
    let other : length (word_bytes words ++ ys) ≢ 4 * (f.rows * f.cols) = λ e.
    absurd (omega (arith, e, some, count, length-append (word_bytes words) ys, length-words words)) in
    subst (IsNoFile front) (sym (append_assoc r (word_bytes words) ys)) (other_count front r digests (word_bytes words ++ ys) f is k hd other)

pub other_digests : (front r digests ys : List ℕ) (f : HintFields) → front ++ r ≡ head_after front f digests → AreKeepable f → HasDigests f digests →
    digests ≢ part_digests ys → IsNoFile front (r ++ ys)
other_digests front r digests ys f is k hd other = λ known hint kept e.
    let s = same_file front (front ++ (r ++ ys)) digests ys f known hint k hd kept (gone_on front r (head_after front f digests) ys is) e in
    other (s.1.0 ∙ ap part_digests (sym s.1.1))

-- ---- a magic and a name in front

-- bytes that are no file with a prefix of this magic and a name of so many bytes
abbrev pub IsNoNamed : List ℕ → ℕ → List ℕ → Type 0
IsNoNamed magic n bytes =
    (name : List ℕ) (known : ServerInfo) (hint : Hint) → length name ≡ n → IsKeepable known hint → bytes ≢ file_after (magic ++ name) known hint

pub too_few : (magic bytes : List ℕ) (n : ℕ) → length magic ≡ 8 → length bytes < 8 + n → IsNoNamed magic n bytes
too_few magic bytes n eight short = λ name known hint len k e.
    absurd (omega (
      arith,
      short,
      eight,
      len,
      ap length e,
      length-append (head_after (magic ++ name) (fields_of known hint) (part_digests (word_bytes hint.matrix.words))) (word_bytes hint.matrix.words),
      length-head (magic ++ name) (part_digests (word_bytes hint.matrix.words)) (fields_of known hint) k.fields.seed,
      length-append magic name,
    ))

-- as many bytes as the magic and the name have are these
front_is : (magic front ys name : List ℕ) (n : ℕ) (known : ServerInfo) (hint : Hint) → length magic ≡ 8 → length front ≡ 8 + n → length name ≡ n →
    front ++ ys ≡ file_after (magic ++ name) known hint → front ≡ magic ++ name
front_is magic front ys name n known hint eight count len e =
    let long : length front ≡ length (magic ++ name) = omega (arith, eight, count, len, length-append magic name) in
    (cut_prefix front (magic ++ name) ys _ long
    (e ∙ head_pieces (magic ++ name) (part_digests (word_bytes hint.matrix.words)) (word_bytes hint.matrix.words) (fields_of known hint))).0

pub other_magic : (magic front ys : List ℕ) (n : ℕ) → length magic ≡ 8 → length front ≡ 8 + n → ((rest : List ℕ) → front ≢ magic ++ rest) →
    IsNoNamed magic n (front ++ ys)
other_magic magic front ys n eight count never = λ name known hint len k e. never name (front_is magic front ys name n known hint eight count len e)

pub no_named : (magic front ys : List ℕ) (n : ℕ) → length magic ≡ 8 → length front ≡ 8 + n → IsNoFile front ys → IsNoNamed magic n (front ++ ys)
no_named magic front ys n eight count never = λ name known hint len k e.
    never known hint k (e ∙ ap (λ (x : List ℕ). file_after x known hint) (sym (front_is magic front ys name n known hint eight count len e)))

pub named_read : {E : Type 0} (r : Result KeptHint E) (magic front rest : List ℕ) (n : ℕ) (a b : Option (List ℕ)) → length magic ≡ 8 → length front ≡ 8 + n →
    front ≡ magic ++ rest → Consumes a b front →
    IfOk r (λ kept. IfSome b (λ bytes. front ++ bytes ≡ file_after front kept.known kept.hint)) →
    IfOk r (λ kept. IfSome a (λ bytes. (name : List ℕ) × (length name ≡ n) × (bytes ≡ file_after (magic ++ name) kept.known kept.hint)))
named_read (Ok kept) magic front rest n a b eight count is taken read =
    let len : length rest ≡ n = omega (arith, eight, count, ap length is, length-append magic rest) in
    left_of_all a b front (λ bytes. (name : List ℕ) × (length name ≡ n) × (bytes ≡ file_after (magic ++ name) kept.known kept.hint))
    (λ bytes. front ++ bytes ≡ file_after front kept.known kept.hint) taken read
    (λ ys e. (rest, len, e ∙ ap (λ (x : List ℕ). file_after x kept.known kept.hint) is))
named_read (Err e) magic front rest n a b eight count is taken read = tt

-- ---- the magic alone in front

pub length-hint_magic : length hint_magic ≡ 8
unfolding hint_magic
length-hint_magic = refl

alone : (magic name : List ℕ) → magic ≡ hint_magic → length name ≡ 0 → magic ++ name ≡ hint_magic
alone magic name is none = ap (λ (x : List ℕ). magic ++ x) (nil_from_length name none) ∙ append-nil magic ∙ is

pub hint_read : {E : Type 0} (r : Result KeptHint E) (magic : List ℕ) (a : Option (List ℕ)) → magic ≡ hint_magic →
    IfOk r (λ kept. IfSome a (λ bytes. (name : List ℕ) × (length name ≡ 0) × (bytes ≡ file_after (magic ++ name) kept.known kept.hint))) →
    IfOk r (λ kept. IfSome a (λ bytes. bytes ≡ hint_bytes kept.known kept.hint))
hint_read (Ok kept) magic a is read =
    some_more a (λ bytes. (name : List ℕ) × (length name ≡ 0) × (bytes ≡ file_after (magic ++ name) kept.known kept.hint))
    (λ bytes. bytes ≡ hint_bytes kept.known kept.hint) read
    (λ bytes p. p.2 ∙ ap (λ (x : List ℕ). file_after x kept.known kept.hint) (alone magic p.0 is p.1))
hint_read (Err e) magic a is read = tt

-- bytes that are no file of a hint
abbrev pub IsNoHint : List ℕ → Type 0
IsNoHint bytes = (known : ServerInfo) (hint : Hint) → IsKeepable known hint → bytes ≢ hint_bytes known hint

pub no_hint : (magic bytes : List ℕ) → magic ≡ hint_magic → IsNoNamed magic 0 bytes → IsNoHint bytes
no_hint magic bytes is never = λ known hint k e.
    never [] known hint refl k (e ∙ ap (λ (x : List ℕ). file_after x known hint) (sym (alone magic [] is refl)))

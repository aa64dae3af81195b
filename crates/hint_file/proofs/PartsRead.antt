-- What is read of some parts of a hint.
use Rattle.std.proofs.Common.{◌≡◌, ℕ, zero, suc, ◌+◌, ◌-◌, ◌*◌, ◌/◌, ◌%◌, ◌^◌, ◌<◌, ◌≤◌, ◌⊎◌, List, [], ◌∷◌, ◌++◌, All, length, take, drop, min, slice_index, refl, sym, ap, ◌∙◌, inl, inr, arith}
use Rattle.std.specs.Prelude.{replicate}
use Rattle.std.proofs.Math.Seq.{take-append-add}
use Rattle.std.proofs.Math.Nat.{mod-lt}
use Rattle.std.proofs.lemmas.Bool.{cases_lt}
use Rattle.std.proofs.lemmas.Grind.{elements}
use Rattle.std.proofs.lemmas.Nat.{mul-le, row_fits}
use Rattle.std.proofs.lemmas.List.{length-take, length-take-le, length-drop, length-replicate, take-take, drop-take, drop-drop, drop_at, take_all, get_or-take, get_or-drop, get_or_append_left, get_or-append_right}
use Rattle.sha2.specs.Sha256.{sha256}
use Rattle.matrix_u32.specs.Sum.{list_of}
use Rattle.matrix_u32.specs.Matrix.{row}
use Rattle.matrix_u32.proofs.Products.{same-list_of}
use Rattle.digit_pack.specs.Layout.{Shape, IsLayout, digit_rows, digits_per_record, first_row}
use Rattle.frame_codec.specs.Numbers.{number_bytes, number_in, word_bytes}
use Rattle.frame_codec.proofs.NumberBytes.{number_back, length-words, drop_number, word_bytes-cons}
use Rattle.client_core.specs.declared.state.Hint.{Hint}
use Rattle.client_core.specs.States.{shape_known}
use Rattle.client_core.specs.Resuming.{HasRowsOf}
use Rattle.hint_file.specs.declared.heads.HintFields.{HintFields}
use Rattle.hint_file.specs.declared.parts.PartSpan.{PartSpan}
use Rattle.hint_file.specs.Files.{first_digests, part_count, part_digests}
use Rattle.hint_file.specs.Reading.{words_of, span_len, bytes_at, HasPartsFrom, AreParts, among_zeros, IsPartlyRead, span_for}
use Rattle.hint_file.specs.Laws.{RecordRowsAreRead, EachRecordAlike}
use Rattle.hint_file.proofs.Bytes.{length-sha256}
use Rattle.hint_file.proofs.PartDigests.{length-part_digests}
use Rattle.hint_file.proofs.WordParts.{take_words, drop_words}

-- ---- digests of some parts

-- without the digests of the first parts
drop_digests : (a m : ℕ) (bytes : List ℕ) → a ≤ m → drop (32 * a) (first_digests m bytes) ≡ first_digests (m - a) (drop (262144 * a) bytes)
unfolding first_digests
drop_digests zero m bytes le =
    let all : m - 0 ≡ m = omega arith in
    ap (λ (n : ℕ). first_digests n bytes) (sym all)
drop_digests (suc a) zero bytes le = absurd (omega arith)
drop_digests (suc a) (suc m) bytes le =
    let first : List ℕ = sha256 (take 262144 bytes) in
    let others : List ℕ = first_digests m (drop 262144 bytes) in
    let place : 32 * suc a ≡ 32 + 32 * a = omega arith in
    let place2 : 262144 + 262144 * a ≡ 262144 * suc a = omega arith in
    let fewer : m - a ≡ suc m - suc a = omega arith in
    ap (λ (n : ℕ). drop n (first ++ others)) place
    ∙ sym (drop-drop (32 * a) 32 (first ++ others))
    ∙ ap (drop (32 * a)) (drop_at first others 32 (length-sha256 (take 262144 bytes)))
    ∙ drop_digests a m (drop 262144 bytes) (omega (arith, le))
    ∙ ap (first_digests (m - a)) (drop-drop (262144 * a) 262144 bytes ∙ ap (λ (n : ℕ). drop n bytes) place2)
    ∙ ap (λ (n : ℕ). first_digests n (drop (262144 * suc a) bytes)) fewer

-- the digests of the first parts alone
take_digests : (k m : ℕ) (bytes : List ℕ) → k ≤ m → take (32 * k) (first_digests m bytes) ≡ first_digests k bytes
unfolding first_digests
take_digests zero m bytes le = refl
take_digests (suc k) zero bytes le = absurd (omega arith)
take_digests (suc k) (suc m) bytes le =
    let first : List ℕ = sha256 (take 262144 bytes) in
    let others : List ℕ = first_digests m (drop 262144 bytes) in
    let place : 32 * suc k ≡ length first + 32 * k = omega (arith, length-sha256 (take 262144 bytes)) in
    ap (λ (n : ℕ). take n (first ++ others)) place
    ∙ take-append-add first others (32 * k)
    ∙ ap (λ (x : List ℕ). first ++ x) (take_digests k m (drop 262144 bytes) (omega (arith, le)))

-- the digests of so many parts need no byte past them
cut_digests : (k n : ℕ) (bytes : List ℕ) → 262144 * k ≤ n → first_digests k (take n bytes) ≡ first_digests k bytes
unfolding first_digests
cut_digests zero n bytes le = refl
cut_digests (suc k) n bytes le =
    let m : ℕ = n - 262144 in
    let whole : n ≡ 262144 + m = omega (arith, le) in
    let first : take 262144 (take n bytes) ≡ take 262144 bytes = take-take 262144 n bytes (omega (arith, le)) in
    let others : drop 262144 (take n bytes) ≡ take m (drop 262144 bytes) =
    ap (λ (x : ℕ). drop 262144 (take x bytes)) whole ∙ drop-take 262144 m bytes in
    ap (λ (x : List ℕ). sha256 x ++ first_digests k (drop 262144 (take n bytes))) first
    ∙ ap (λ (x : List ℕ). sha256 (take 262144 bytes) ++ first_digests k x) others
    ∙ ap (λ (x : List ℕ). sha256 (take 262144 bytes) ++ x) (cut_digests k m (drop 262144 bytes) (omega (arith, le)))

-- how many bytes the parts of a span have
length-bytes_at : (bytes : List ℕ) (s : PartSpan) → length (bytes_at bytes s) ≡ span_len (length bytes) s
length-bytes_at bytes s =
    let rest = length-drop (262144 * s.first) bytes in
    omega (arith, length-take (span_len (length bytes) s) (drop (262144 * s.first) bytes), rest)

-- a span's parts have the digests that are at its place
digests_at : (bytes : List ℕ) (s : PartSpan) → s.first ≤ s.end → s.end ≤ part_count (length bytes) →
    part_digests (bytes_at bytes s) ≡ take (32 * (s.end - s.first)) (drop (32 * s.first) (part_digests bytes))
digests_at bytes s order inside =
    let len : ℕ = length bytes in
    let m : ℕ = part_count (length bytes) in
    let k : ℕ = s.end - s.first in
    let n : ℕ = span_len (length bytes) s in
    let rest : List ℕ = drop (262144 * s.first) bytes in
    let count : part_count (length (bytes_at bytes s)) ≡ k = ap part_count (length-bytes_at bytes s) ∙ omega (arith, order, inside) in
    ap (λ (x : ℕ). first_digests x (bytes_at bytes s)) count
    ∙ whole (cases_lt (length bytes) (262144 * s.end))
    ∙ sym (take_digests k (m - s.first) rest (omega (arith, order, inside)))
    ∙ ap (take (32 * k)) (sym (drop_digests s.first m bytes (omega (arith, order, inside))))
  where
    whole : (length bytes < 262144 * s.end) ⊎ (262144 * s.end ≤ length bytes) →
        first_digests (s.end - s.first) (take (span_len (length bytes) s) (drop (262144 * s.first) bytes))
        ≡ first_digests (s.end - s.first) (drop (262144 * s.first) bytes)
    whole (inl less) =
        ap (first_digests (s.end - s.first))
        (take_all (span_len (length bytes) s) (drop (262144 * s.first) bytes) (omega (arith, less, length-drop (262144 * s.first) bytes)))
    whole (inr more) = cut_digests (s.end - s.first) (span_len (length bytes) s) (drop (262144 * s.first) bytes) (omega (arith, more, order))

-- ---- words of some parts

-- words of 32 bits are known from their bytes
one_word : (x y : ℕ) (a b : List ℕ) → x < 2 ^ 32 → y < 2 ^ 32 → number_bytes 4 x ++ a ≡ number_bytes 4 y ++ b → x ≡ y
one_word x y a b hx hy e = sym (number_back 4 x a hx) ∙ ap (number_in 4) e ∙ number_back 4 y b hy

first_small : (x : ℕ) (xs : List ℕ) → All (λ w. w < 2 ^ 32) (x ∷ xs) → x < 2 ^ 32
first_small x xs h = h 0 0 (omega arith)

others_small : (x : ℕ) (xs : List ℕ) → All (λ w. w < 2 ^ 32) (x ∷ xs) → All (λ w. w < 2 ^ 32) xs
others_small x xs h = λ i d lt. h (suc i) d (omega (arith, lt))

same_words : (xs ys : List ℕ) → All (λ w. w < 2 ^ 32) xs → All (λ w. w < 2 ^ 32) ys → word_bytes xs ≡ word_bytes ys → xs ≡ ys
same_words [] [] p q e = refl
same_words [] (y ∷ ys) p q e = absurd (omega (arith, ap length e, length-words [], length-words (y ∷ ys)))
same_words (x ∷ xs) [] p q e = absurd (omega (arith, ap length e, length-words (x ∷ xs), length-words []))
same_words (x ∷ xs) (y ∷ ys) p q e =
    let cut : number_bytes 4 x ++ word_bytes xs ≡ number_bytes 4 y ++ word_bytes ys = sym (word_bytes-cons x xs) ∙ e ∙ word_bytes-cons y ys in
    let rest : word_bytes xs ≡ word_bytes ys = sym (drop_number 4 x (word_bytes xs)) ∙ ap (drop 4) cut ∙ drop_number 4 y (word_bytes ys) in
    let one : x ≡ y = one_word x y (word_bytes xs) (word_bytes ys) (first_small x xs p) (first_small y ys q) cut in
    ap (λ (w : ℕ). w ∷ xs) one ∙ ap (λ (ws : List ℕ). y ∷ ws) (same_words xs ys (others_small x xs p) (others_small y ys q) rest)

-- each of some words is small if each of all is
some_small : (n a : ℕ) (ws : List ℕ) → All (λ w. w < 2 ^ 32) ws → All (λ w. w < 2 ^ 32) (take n (drop a ws))
some_small n a ws h = grind (arith, elements, h)

-- the words of a span's parts
pub words_at : (words ws bytes : List ℕ) (s : PartSpan) (n : ℕ) → All (λ w. w < 2 ^ 32) words → All (λ w. w < 2 ^ 32) ws → word_bytes ws ≡ bytes →
    bytes ≡ bytes_at (word_bytes words) s → span_len (length (word_bytes words)) s ≡ 4 * n → ws ≡ take n (drop (65536 * s.first) words)
words_at words ws bytes s n p q read e len =
    let place : 262144 * s.first ≡ 4 * (65536 * s.first) = omega arith in
    let there : bytes_at (word_bytes words) s ≡ word_bytes (take n (drop (65536 * s.first) words)) =
    ap (λ (x : ℕ). take x (drop (262144 * s.first) (word_bytes words))) len
    ∙ ap (λ (x : ℕ). take (4 * n) (drop x (word_bytes words))) place
    ∙ ap (take (4 * n)) (drop_words (65536 * s.first) words)
    ∙ take_words n (drop (65536 * s.first) words) in
    same_words ws (take n (drop (65536 * s.first) words)) q (some_small n (65536 * s.first) words p) (read ∙ e ∙ there)

-- a word that was read is at its place among the zeros
word_at : (words ws : List ℕ) (total start n k : ℕ) → ws ≡ take n (drop start words) → length ws ≡ n → start ≤ k → k < start + n → start ≤ total →
    slice_index (among_zeros total start ws) k ≡ slice_index words k
word_at words ws total start n k is len le lt inside =
    let zeros : List ℕ = replicate total 0 in
    let beyond : List ℕ = drop (start + length ws) zeros in
    let count : length {A = ℕ} (replicate total 0) ≡ total = length-replicate total 0 in
    let before : length (take start zeros) ≡ start = length-take-le start zeros (omega (arith, inside, count)) in
    let here : start + (k - start) ≡ k = omega (arith, le) in
    get_or-append_right (take start zeros) (ws ++ beyond) start k 0 before le
    ∙ get_or_append_left ws beyond 0 (k - start) (omega (arith, lt, len))
    ∙ ap (λ (x : List ℕ). slice_index x (k - start)) is
    ∙ get_or-take n (drop start words) (k - start) 0 (omega (arith, lt, le))
    ∙ get_or-drop start words (k - start) 0
    ∙ ap (λ (x : ℕ). slice_index words x) here

-- ---- the rows of a record

-- what a span for rows says: where its parts begin and end, by the words of the rows and of all
record Spans (cols row count total : ℕ) (s : PartSpan) : Type 0 where
  order : s.first ≤ s.end
  inside : s.end ≤ part_count (4 * total)
  start : 65536 * s.first ≤ row * cols
  past : (row + count) * cols ≤ 65536 * s.end
  all : (row + count) * cols ≤ total

spans : (cols row count total : ℕ) (s : PartSpan) → s.first ≡ row * cols / 65536 → s.end ≡ ((row + count) * cols + 65535) / 65536 →
    (row + count) * cols ≤ total → Spans cols row count total s
spans cols row count total s first end le =
    let more : row * cols ≤ (row + count) * cols = mul-le row cols (row + count) cols (omega arith) (omega arith) in
    record {
      order = omega (arith, first, end, more);
      inside = omega (arith, end, le);
      start = omega (arith, first);
      past = omega (arith, end);
      all = le;
    }

-- a record's rows are rows of the matrix
inside_rows : (l : Shape) (i : ℕ) → IsLayout l → first_row l i + digits_per_record l ≤ digit_rows l
inside_rows l i ok =
    let some : 1 ≤ l.groups = ok.groups.0 in
    row_fits _ (digits_per_record l) l.groups (digits_per_record l) (mod_below some) (omega arith)
  where
    mod_below : 1 ≤ l.groups → i % l.groups < l.groups
    mod_below some = mod-lt i (omega (arith, some))

-- one row is read as it is
row_at : (words ws : List ℕ) (cols row count total : ℕ) (s : PartSpan) (d n : ℕ) → Spans cols row count total s → d < count → length words ≡ total →
    ws ≡ take n (drop (65536 * s.first) words) → 65536 * s.first + n ≡ min (65536 * s.end) total → (j : ℕ) → j < cols →
    slice_index (among_zeros total (65536 * s.first) ws) ((row + d) * cols + j) ≡ slice_index words ((row + d) * cols + j)
row_at words ws cols row count total s d n sp lt len is upto j below =
    let low : row * cols ≤ (row + d) * cols = mul-le row cols (row + d) cols (omega arith) (omega arith) in
    let high : (row + d) * cols + cols ≤ (row + count) * cols = row_fits (row + d) cols (row + count) cols (omega (arith, lt)) (omega arith) in
    let place : ℕ = (row + d) * cols + j in
    let some : length ws ≡ n =
    ap length is ∙ length-take n (drop (65536 * s.first) words) ∙ omega (arith, length-drop (65536 * s.first) words, len, upto, sp.start, sp.all, low, high, below) in
    word_at words ws total (65536 * s.first) n place is some
    (omega (arith, sp.start, low))
    (omega (arith, upto, sp.past, sp.all, high, below))
    (omega (arith, sp.start, low, high, sp.all, below))

pub record_rows_are_read : RecordRowsAreRead
record_rows_are_read known now h head i bytes of has e = record { parts = are_parts; rows = rows_are }
  where
    f : HintFields
    f = head.fields

    s : PartSpan
    s = span_for head.fields now i

    l : Shape
    l = shape_known now

    total : ℕ
    total = words_of head.fields

    size : words_of head.fields ≡ h.matrix.rows * h.matrix.cols
    size = ap words_of of.fields

    len : length h.matrix.words ≡ words_of head.fields
    len = of.keepable.whole ∙ sym size

    bytes_len : length (word_bytes h.matrix.words) ≡ 4 * words_of head.fields
    bytes_len = length-words h.matrix.words ∙ ap (λ (n : ℕ). 4 * n) len

    within : (first_row (shape_known now) i + digits_per_record (shape_known now)) * head.fields.cols ≤ words_of head.fields
    within = mul-le _ head.fields.cols head.fields.rows head.fields.cols (omega (arith, inside_rows (shape_known now) i has.serves.layout, has.serves.rows)) (omega arith)

    sp : Spans head.fields.cols (first_row (shape_known now) i) (digits_per_record (shape_known now)) (words_of head.fields) (span_for head.fields now i)
    sp = spans head.fields.cols (first_row (shape_known now) i) (digits_per_record (shape_known now)) (words_of head.fields) (span_for head.fields now i) refl refl within

    more_words : first_row (shape_known now) i * head.fields.cols ≤ (first_row (shape_known now) i + digits_per_record (shape_known now)) * head.fields.cols
    more_words = mul-le _ head.fields.cols _ head.fields.cols (omega arith) (omega arith)

    parts : HasPartsFrom head (span_for head.fields now i)
    parts = record {
      small = rw size of.keepable.fields.small;
      digests = ap length of.digests ∙ length-part_digests (word_bytes h.matrix.words) ∙ ap (λ (n : ℕ). 32 * part_count n) bytes_len;
      order = sp.order;
      start = omega (arith, sp.start, sp.all, more_words);
      inside = sp.inside;
    }

    are_parts : AreParts head (span_for head.fields now i) bytes
    are_parts = record {
      parts = parts;
      count = ap length e ∙ length-bytes_at (word_bytes h.matrix.words) (span_for head.fields now i)
          ∙ ap (λ (n : ℕ). span_len n (span_for head.fields now i)) bytes_len;
      same = ap part_digests e
          ∙ digests_at (word_bytes h.matrix.words) (span_for head.fields now i) sp.order (omega (arith, sp.inside, bytes_len))
          ∙ ap (λ (x : List ℕ). take (32 * ((span_for head.fields now i).end - (span_for head.fields now i).first)) (drop (32 * (span_for head.fields now i).first) x))
          (sym of.digests);
    }

    rows_are : (part : Hint) → IsPartlyRead head (span_for head.fields now i) bytes part → HasRowsOf now h i part
    rows_are part p = record {
      simple = sym (ap (λ (x : HintFields). x.scheme) of.fields) ∙ has.serves.scheme;
      scheme = ap (λ (x : Hint). x.scheme) p.is ∙ has.serves.scheme;
      version = ap (λ (x : Hint). x.version) p.is ∙ ap (λ (x : HintFields). x.version) of.fields;
      cols = ap (λ (x : Hint). x.matrix.cols) p.is ∙ ap (λ (x : HintFields). x.cols) of.fields;
      each = λ d lt. each d lt;
    }
      where
        n : ℕ
        n = min (65536 * (span_for head.fields now i).end) (words_of head.fields) - 65536 * (span_for head.fields now i).first

        more : first_row (shape_known now) i * head.fields.cols ≤ (first_row (shape_known now) i + digits_per_record (shape_known now)) * head.fields.cols
        more = mul-le _ head.fields.cols _ head.fields.cols (omega arith) (omega arith)

        upto : 65536 * (span_for head.fields now i).first + n ≡ min (65536 * (span_for head.fields now i).end) (words_of head.fields)
        upto = omega (arith, sp.start, sp.past, sp.all, more)

        four : span_len (length (word_bytes h.matrix.words)) (span_for head.fields now i) ≡ 4 * n
        four = ap (λ (x : ℕ). span_len x (span_for head.fields now i)) bytes_len ∙ omega arith

        is : p.words ≡ take n (drop (65536 * (span_for head.fields now i).first) h.matrix.words)
        is = words_at h.matrix.words p.words bytes (span_for head.fields now i) n of.each p.each p.read e four

        each : (d : ℕ) → d < digits_per_record (shape_known now) →
            row part.matrix (first_row (shape_known now) i + d) ≡ row h.matrix (first_row (shape_known now) i + d)
        each d lt =
            let r : ℕ = first_row (shape_known now) i + d in
            ap (λ (x : Hint). row x.matrix r) p.is
            ∙ same-list_of head.fields.cols _ (λ j. slice_index h.matrix.words (r * head.fields.cols + j))
            (λ j below. row_at h.matrix.words p.words head.fields.cols (first_row (shape_known now) i) (digits_per_record (shape_known now)) (words_of head.fields)
            (span_for head.fields now i) d n sp lt len is upto j below)
            ∙ ap (λ (x : HintFields). list_of x.cols (λ j. slice_index h.matrix.words (r * x.cols + j))) of.fields

-- ---- each record alike

pub each_record_alike : EachRecordAlike
each_record_alike f now i lt = (λ h. h.serves, λ s. record { serves = s; index = lt })

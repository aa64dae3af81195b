-- The old bytes that two stores keep, of which one was opened later.
use Rattle.std.proofs.Common.{◌≡◌, ◌∙◌, ◌⊎◌, ℕ, suc, ◌≤◌, List, [], ◌∷◌, ◌++◌, true, length, refl, sym, ap, arith, inl, inr}
use Rattle.std.specs.Prelude.{nat_le}
use Rattle.std.proofs.lemmas.Bool.{and_parts, and_from, cases_Bool, cond-true, cond-false, leb-true, le-leb}
use Rattle.std.proofs.lemmas.List.{append_assoc, length-append, length_push, nil_from_length}
use Rattle.digit_pack.specs.Layout.{is_wide}
use Rattle.pir_schemes.specs.declared.plan.Plan.{Plan}
use Rattle.record_log.specs.OldRecords.{OldRecord}
use Rattle.record_log.specs.Logs.{are_within, kept_within, total_bytes}
use Rattle.version_store.specs.OldRecords.{most_old_bytes, with_olds}
use Rattle.version_store.proofs.OldsKept.{kept_are, ordinary_keeps, wide_keeps}

-- ---- what is kept of more publications

fewer_within : (len most : ℕ) (oldest : List OldRecord) (newer : List (List OldRecord)) → are_within len most (oldest ∷ newer) ≡ true →
    are_within len most newer ≡ true
fewer_within len most oldest newer within =
    let parts = and_parts (nat_le (length (oldest ∷ newer)) 16) (nat_le (total_bytes len (oldest ∷ newer)) most) within in
    and_from (nat_le (length newer) 16) (nat_le (total_bytes len newer) most)
    (le-leb (length newer) 16 (omega (arith, leb-true (length (oldest ∷ newer)) 16 parts.0)))
    (le-leb (total_bytes len newer) most (omega (arith, leb-true (total_bytes len (oldest ∷ newer)) most parts.1)))

rest_within : (len most : ℕ) (before lists : List (List OldRecord)) → are_within len most (before ++ lists) ≡ true → are_within len most lists ≡ true
rest_within len most [] lists within = within
rest_within len most (oldest ∷ before) lists within = rest_within len most before lists (fewer_within len most oldest (before ++ lists) within)

all_kept : (len most : ℕ) (lists : List (List OldRecord)) → are_within len most lists ≡ true → kept_within len most lists ≡ lists
all_kept len most [] within = refl
all_kept len most (oldest ∷ newer) within = cond-true (are_within len most (oldest ∷ newer)) (oldest ∷ newer) (kept_within len most newer) within

-- with others before them the same are kept, or all of them and some of the others
kept_after : (len most : ℕ) (before lists : List (List OldRecord)) →
    (kept_within len most (before ++ lists) ≡ kept_within len most lists)
    ⊎ (kept_within len most lists ≡ lists) × (more : List (List OldRecord)) × (kept_within len most (before ++ lists) ≡ more ++ lists)
kept_after len most [] lists = inl refl
kept_after len most (oldest ∷ before) lists =
    let all : List (List OldRecord) = oldest ∷ (before ++ lists) in
    let rest : List (List OldRecord) = kept_within len most (before ++ lists) in
    elim (cases_Bool (are_within len most all)) [
      | inl within ↦
          inr (all_kept len most lists (rest_within len most (oldest ∷ before) lists within), oldest ∷ before, cond-true (are_within len most all) all rest within)
      | inr over ↦
          let dropped : kept_within len most all ≡ rest = cond-false (are_within len most all) all rest over in
          elim (kept_after len most before lists) [
            | inl same ↦ inl (dropped ∙ same)
            | inr longer ↦ inr (longer.0, longer.1, dropped ∙ longer.2)
          ]
    ]

-- ---- two stores after the same publications

-- what two stores keep after so many publications, if one was opened before them: the same; or both
-- are wide, and the other store keeps some more of earlier ones
abbrev pub MeetAfter : Plan → ℕ → List (List OldRecord) → List (List OldRecord) → Type 0
MeetAfter p n olds others =
    (olds ≡ others) ⊎ (is_wide p.form ≡ true) × (n ≤ length olds) × (before : List (List OldRecord)) × (others ≡ before ++ olds)

pub one_more_kept : (p : Plan) (n : ℕ) (olds others : List (List OldRecord)) (last : List OldRecord) → MeetAfter p n olds others →
    MeetAfter p (suc n) (with_olds p olds last) (with_olds p others last)
one_more_kept p n olds others last (inl same) = inl (ap (λ (xs : List (List OldRecord)). with_olds p xs last) same)
one_more_kept p n olds others last (inr (wide, few, before, is)) =
    let lists : List (List OldRecord) = olds ++ last ∷ [] in
    let left : with_olds p olds last ≡ kept_within p.record_len (most_old_bytes p) lists = wide_keeps p olds last wide in
    let right : with_olds p others last ≡ kept_within p.record_len (most_old_bytes p) (before ++ lists) =
    wide_keeps p others last wide
    ∙ ap (λ (xs : List (List OldRecord)). kept_within p.record_len (most_old_bytes p) (xs ++ last ∷ [])) is
    ∙ ap (kept_within p.record_len (most_old_bytes p)) (append_assoc before olds (last ∷ [])) in
    elim (kept_after p.record_len (most_old_bytes p) before lists) [
      | inl same ↦ inl (left ∙ sym same ∙ sym right)
      | inr longer ↦
          let all : with_olds p olds last ≡ lists = left ∙ longer.0 in
          inr
          (wide, omega (arith, few, ap length all, length_push olds last), longer.1, right ∙ longer.2 ∙ ap (λ (xs : List (List OldRecord)). longer.1 ++ xs) (sym all))
    ]

-- no store keeps more than 16
pub few_kept : (p : Plan) (lists : List (List OldRecord)) (last : List OldRecord) → length lists ≤ 16 → length (with_olds p lists last) ≤ 16
few_kept p lists last few = elim (cases_Bool (is_wide p.form)) [
  | inl wide ↦ (kept_are p lists last wide).few
  | inr ordinary ↦ omega (arith, few, ap length (ordinary_keeps p lists last ordinary))
]

-- so after 16 they keep the same
pub met : (p : Plan) (n : ℕ) (olds others : List (List OldRecord)) → MeetAfter p n olds others → 16 ≤ n → length others ≤ 16 → olds ≡ others
met p n olds others (inl same) enough few = same
met p n olds others (inr (wide, many, before, is)) enough few =
    let none : before ≡ [] = nil_from_length before (omega (arith, enough, few, many, ap length is, length-append before olds)) in
    sym (is ∙ ap (λ (xs : List (List OldRecord)). xs ++ olds) none)

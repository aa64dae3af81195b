-- The forms that there are.
use Rattle.std.proofs.Common.{◌≡◌, ◌∙◌, ◌⊎◌, ◌+◌, ◌≤◌, ℕ, inl, inr, true, false, ap, sym, subst, arith}
use Rattle.std.proofs.lemmas.Bool.{and_parts, or_cases, eqb-true, leb-true, le-leb}
use Rattle.digit_pack.specs.Layout.{IsLayout, shape, shape_in, shape_within, wide_side}
use Rattle.digit_pack.specs.Slots.{is_form, is_slotted}

pub slotted_is : (form : ℕ) → is_slotted form ≡ true → (form ≡ 2) ⊎ (form ≡ 130)
unfolding is_slotted
slotted_is form e = elim (or_cases _ _ e) [
  | inl two ↦ inl (eqb-true form 2 two)
  | inr wide ↦ inr (eqb-true form 130 wide)
]

slots_at : (form other len : ℕ) → form ≡ other → is_form form len ≡ true → is_form other len ≡ true
slots_at form other len same e = ap (λ f. is_form f len) (sym same) ∙ e

-- a slot has at least two bytes
pub two_bytes : (form len : ℕ) → is_form form len ≡ true → is_slotted form ≡ true → 2 ≤ len
unfolding is_form is_slotted
two_bytes form len e slots = elim (slotted_is form slots) [
  | inl two ↦ leb-true 2 len (slots_at form 2 len two e)
  | inr wide ↦ leb-true 2 len (slots_at form 130 len wide e)
]

-- which forms there are
pub form_is : (form len : ℕ) → is_form form len ≡ true → (form ≡ 1) ⊎ (form ≡ 2) ⊎ (form ≡ 129) ⊎ (form ≡ 130)
unfolding is_form
form_is form len e = elim (or_cases _ _ e) [
  | inl one ↦ inl (eqb-true form 1 one)
  | inr more ↦ elim (or_cases _ _ more) [
    | inl wide ↦ inr (inr (inl (eqb-true form 129 wide)))
    | inr slots ↦ elim (slotted_is form (and_parts _ _ slots).0) [
      | inl two ↦ inr (inl two)
      | inr last ↦ inr (inr (inr last))
    ]
  ]
]

-- there is no form above 130
pub low_form : (form len : ℕ) → is_form form len ≡ true → form ≤ 130
low_form form len e = elim (form_is form len e) [
  | inl is ↦ omega (arith, is)
  | inr (inl is) ↦ omega (arith, is)
  | inr (inr (inl is)) ↦ omega (arith, is)
  | inr (inr (inr is)) ↦ omega (arith, is)
]

-- ---- the forms in which all records have one length

pub plain_is : (form : ℕ) → (form ≡ 1) ⊎ (form ≡ 129) → is_slotted form ≡ false
unfolding is_slotted
plain_is form (inl one) = ap is_slotted one
plain_is form (inr wide) = ap is_slotted wide

-- the next form has slots
pub next_is_slotted : (form : ℕ) → (form ≡ 1) ⊎ (form ≡ 129) → is_slotted (form + 1) ≡ true
unfolding is_slotted
next_is_slotted form (inl one) = ap (λ f. is_slotted (f + 1)) one
next_is_slotted form (inr wide) = ap (λ f. is_slotted (f + 1)) wide

pub next_is_form : (form len : ℕ) → (form ≡ 1) ⊎ (form ≡ 129) → is_form (form + 1) (len + 2) ≡ true
unfolding is_form is_slotted
next_is_form form len (inl one) = ap (λ f. is_form (f + 1) (len + 2)) one ∙ le-leb 2 (len + 2) (omega arith)
next_is_form form len (inr wide) = ap (λ f. is_form (f + 1) (len + 2)) wide ∙ le-leb 2 (len + 2) (omega arith)

-- ---- the wide form of an ordinary one

widened : (w len groups count : ℕ) → IsLayout (shape w len groups count) → w ≤ 9 → IsLayout (shape_within wide_side w len groups count)
widened w len groups count ok low = record {
  side = omega arith;
  width = ok.width;
  noise = inr low;
  record_len = ok.record_len;
  groups = (ok.groups.0, omega (arith, ok.groups.1), ok.groups.2);
  count = (ok.count.0, omega (arith, ok.count.1));
}

pub wide_is_slotted : (form : ℕ) → (form ≡ 1) ⊎ (form ≡ 2) → is_slotted (form + 128) ≡ is_slotted form
unfolding is_slotted
wide_is_slotted form (inl one) = ap (λ f. is_slotted (f + 128)) one ∙ sym (ap is_slotted one)
wide_is_slotted form (inr two) = ap (λ f. is_slotted (f + 128)) two ∙ sym (ap is_slotted two)

pub wide_is_form : (form len : ℕ) → (form ≡ 1) ⊎ (form ≡ 2) → is_form form len ≡ true → is_form (form + 128) len ≡ true
unfolding is_form is_slotted
wide_is_form form len (inl one) e = ap (λ f. is_form (f + 128) len) one
wide_is_form form len (inr two) e = ap (λ f. is_form (f + 128) len) two ∙ slots_at form 2 len two e

-- the layout of an ordinary form is one of its wide form, if digits have at most 9 bits
pub wide_layout : (form w len groups count : ℕ) → (form ≡ 1) ⊎ (form ≡ 2) → IsLayout (shape_in form w len groups count) → w ≤ 9 →
    IsLayout (shape_in (form + 128) w len groups count)
wide_layout form w len groups count (inl one) ok low =
    subst (λ f. IsLayout (shape_in (f + 128) w len groups count)) (sym one)
    (widened w len groups count (subst (λ f. IsLayout (shape_in f w len groups count)) one ok) low)
wide_layout form w len groups count (inr two) ok low =
    subst (λ f. IsLayout (shape_in (f + 128) w len groups count)) (sym two)
    (widened w len groups count (subst (λ f. IsLayout (shape_in f w len groups count)) two ok) low)

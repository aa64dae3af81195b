-- The test of a layout says what its limits say.
use Rattle.std.proofs.Common.{◌≡◌, ◌≤◌, ◌⊎◌, ◌||◌, inl, inr, ℕ, nat_le, Bool, true, false, refl}
use Rattle.std.proofs.lemmas.Bool.{and_parts, and_from, or_left, or_right, or_cases, le-leb, leb-true}
use Rattle.digit_pack.specs.declared.layout.LayoutError.{LayoutError}
use Rattle.digit_pack.specs.declared.layout.LayoutError.TheVariants.{BadWidth, BadRecord, BadGroups, BadCount}
use Rattle.digit_pack.specs.Layout.{Shape, IsLayout, IsLayoutFault, is_layout, ordinary_side}

either_limit : (a b c d : ℕ) → (a ≤ b) ⊎ (c ≤ d) → (nat_le a b || nat_le c d) ≡ true
either_limit a b c d (inl low) = or_left _ _ (le-leb a b low)
either_limit a b c d (inr low) = or_right _ _ (le-leb c d low)

either_means : (a b c d : ℕ) → (nat_le a b || nat_le c d) ≡ true → (a ≤ b) ⊎ (c ≤ d)
either_means a b c d e = elim (or_cases _ _ e) [
  | inl low ↦ inl (leb-true a b low)
  | inr low ↦ inr (leb-true c d low)
]

pub layout_accepted : (l : Shape) → IsLayout l → is_layout l ≡ true
unfolding is_layout
layout_accepted l h =
    and_from _ _ (le-leb _ _ h.side)
    (and_from _ _ (and_from _ _ (le-leb _ _ h.width.0) (le-leb _ _ h.width.1))
    (and_from _ _ (either_limit l.side ordinary_side l.width 9 h.noise)
    (and_from _ _ (and_from _ _ (le-leb _ _ h.record_len.0) (le-leb _ _ h.record_len.1))
    (and_from _ _ (and_from _ _ (le-leb _ _ h.groups.0) (and_from _ _ (le-leb _ _ h.groups.1) (le-leb _ _ h.groups.2)))
    (and_from _ _ (le-leb _ _ h.count.0) (le-leb _ _ h.count.1))))))

pub layout_means : (l : Shape) → is_layout l ≡ true → IsLayout l
unfolding is_layout
layout_means l h =
    let s = and_parts _ _ h in
    let a = and_parts _ _ s.1 in
    let q = and_parts _ _ a.1 in
    let b = and_parts _ _ q.1 in
    let d = and_parts _ _ b.1 in
    let w = and_parts _ _ a.0 in
    let r = and_parts _ _ b.0 in
    let g = and_parts _ _ d.0 in
    let p = and_parts _ _ g.1 in
    let c = and_parts _ _ d.1 in
    record {
      side = leb-true _ _ s.0;
      width = (leb-true _ _ w.0, leb-true _ _ w.1);
      noise = either_means l.side ordinary_side l.width 9 q.0;
      record_len = (leb-true _ _ r.0, leb-true _ _ r.1);
      groups = (leb-true _ _ g.0, leb-true _ _ p.0, leb-true _ _ p.1);
      count = (leb-true _ _ c.0, leb-true _ _ c.1);
    }

no_fault : (l : Shape) (e : LayoutError) → IsLayout l → IsLayoutFault l e → ⊥
no_fault l BadWidth h f = f (h.width, h.noise)
no_fault l BadRecord h f = f.1 h.record_len
no_fault l BadGroups h f = f.2 h.groups
no_fault l BadCount h f = f.3 h.count

decided : (l : Shape) (e : LayoutError) (b : Bool) → (b ≡ true → IsLayout l) → IsLayoutFault l e → b ≡ false
decided l e true means f = absurd (no_fault l e (means refl) f)
decided l e false means f = refl

pub layout_refused : (l : Shape) (e : LayoutError) → IsLayoutFault l e → is_layout l ≡ false
layout_refused l e f = decided l e (is_layout l) (layout_means l) f

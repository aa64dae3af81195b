use Rattle.std.proofs.Common.{arith, ap, ◌∙◌, sym, subst, ◌≡◌, ◌<◌, ◌^◌, All, ℕ, List, [], false}
use Rattle.seed_expand.specs.Words.{public_rows}
use Rattle.digit_pack.specs.Layout.{is_wide, digit_cols}
use Rattle.matrix_u32.specs.Matrix.{product}
use Rattle.simple_scheme.specs.Simple.{hint_of}
use Rattle.pir_schemes.specs.declared.plan.Plan.{Plan}
use Rattle.pir_schemes.specs.Plans.{digits_at, records_held, first_public}
use Rattle.version_store.specs.Editions.{Records, IsMade, bytes_held}
use Rattle.version_store.specs.HeldRecords.{bytes_held_by, is_in_digits}
use Rattle.version_store.proofs.KeptBytes.{pick_true, pick_false, held_made}
use Rattle.version_store.proofs.Slotted.{slots_again}
use Rattle.version_store.proofs.Versions.{digits_again, hint_again}
use Rattle.version_store.proofs.first_layer.FirstLayer.open.Given.{Over}
use Rattle.version_store.proofs.first_layer.FirstLayer.open.Goals.{In_ok-hint}
use Rattle.version_store.proofs.first_layer.FirstLayer.open.Goals as goal

-- what is made, of the bytes that were given
made_of : (g : Over) (c : In_ok-hint g) → IsMade c.args.plan c.args.layout (bytes_held_by c.args.held) c.in_ok-a1.a1 c.in_ok-digits.digits c.in_ok-hint.hint
unfolding hint_of
made_of g c =
    let p : Plan = c.args.plan in
    let bytes : List ℕ = bytes_held_by c.args.held in
    let public : c.in_ok-a1.a1 ≡ first_public c.args.layout p.dimension p.seed =
    c.in_ok-a1.ensures
    ∙ ap (λ n. public_rows p.seed 0 0 n c.from-dimension.result) c.cols.ensures.value
    ∙ ap (λ d. public_rows p.seed 0 0 (digit_cols c.args.layout) d) c.from-dimension.ensures in
    let small : All (λ x. x < 2 ^ 8) bytes = c.into_digits.ensures.small in
    let slots = slots_again p c.args.layout bytes c.requires.sizes c.requires.count small c.requires.slots in
    let digits : c.in_ok-digits.digits ≡ digits_at p (records_held p c.args.layout.count bytes) =
    c.in_ok-digits.ensures.digits
    ∙ sym (digits_again p c.args.layout bytes c.requires.sizes slots) in
    record {
      form = c.requires.form;
      layout = c.cols.ensures.layout;
      sizes = c.requires.sizes;
      low = c.requires.dimension.0;
      high = c.requires.dimension.1;
      count = c.requires.count;
      good = c.requires.slots;
      slots_are = slots;
      public_is = public ∙ ap (λ n. public_rows p.seed 0 0 n p.dimension) (sym (ap (λ m. m.rows) public));
      enough = omega (arith, ap (λ m. m.rows) public);
      digits_are = digits;
      hint_is = c.in_ok-hint.ensures ∙ ap (λ d. product d c.in_ok-a1.a1) digits
          ∙ ap (product (digits_at p (records_held p c.args.layout.count bytes))) public
          ∙ sym (hint_again p c.args.layout bytes c.requires.sizes);
    }

-- beside the digits the bytes are kept in an ordinary form
ordinary : (g : Over) (c : In_ok-hint g) → is_wide c.args.plan.form ≡ false → c.in_ok-digits.kept.items ≡ bytes_held_by c.args.held
ordinary g c e = c.in_ok-digits.ensures.bytes ∙ pick_false (is_in_digits c.args.held) [] (bytes_held_by c.args.held) (c.requires.kind ∙ e)

-- the bytes that were given are held
held_is : (g : Over) (c : In_ok-hint g) →
    bytes_held c.args.plan c.args.layout c.in_ok-digits.kept.items c.in_ok-digits.digits ≡ (bytes_held_by c.args.held)
held_is g c =
    let small : All (λ x. x < 2 ^ 8) (bytes_held_by c.args.held) = c.into_digits.ensures.small in
    held_made c.args.plan c.args.layout (bytes_held_by c.args.held) c.in_ok-a1.a1 c.in_ok-digits.digits c.in_ok-hint.hint (made_of g c) small
    c.in_ok-digits.kept.items (ordinary g c)

pub invariant_of-result : goal.invariant_of-result
invariant_of-result g c = record {
  none = λ e. c.in_ok-digits.ensures.bytes ∙ pick_true (is_in_digits c.args.held) [] (bytes_held_by c.args.held) (c.requires.kind ∙ e);
  small =
      let small : All (λ x. x < 2 ^ 8) (bytes_held_by c.args.held) = c.into_digits.ensures.small in
      subst (All (λ x. x < 2 ^ 8)) (sym (held_is g c)) small;
  made = subst (λ (b : List ℕ). IsMade c.args.plan c.args.layout b c.in_ok-a1.a1 c.in_ok-digits.digits c.in_ok-hint.hint) (sym (held_is g c)) (made_of g c);
}

pub returns : goal.returns
returns g c =
    let with : List ℕ → Records = λ b. record { plan = c.args.plan; records = records_held c.args.plan c.args.layout.count b } in
    ap with (held_is g c)

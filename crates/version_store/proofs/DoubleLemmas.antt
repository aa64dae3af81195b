-- Both hints of DoublePIR, of a version and of the next one.
use Rattle.std.proofs.Common.{◌≡◌, ℕ, ◌*◌, ◌∙◌, ap, sym, refl, subst, List, length, Bool}
use Rattle.matrix_u32.specs.Matrix.{WordMatrix, product}
use Rattle.matrix_u32.proofs.Products.{length-list_of}
use Rattle.lane_kernels.specs.Digit.{split_count}
use Rattle.digit_pack.specs.Layout.{digit_rows, digit_cols}
use Rattle.simple_scheme.specs.Simple.{hint_of}
use Rattle.pir_schemes.specs.declared.scheme.Scheme.TheVariants.{Simple, Double}
use Rattle.pir_schemes.specs.declared.plan.Plan.{Plan}
use Rattle.pir_schemes.specs.Plans.{shape_at, digits_at, first_public, second_public}
use Rattle.pir_schemes.specs.Retrievals.{hint_matrix, server_hint}
use Rattle.hint_update.specs.Updates.{AreHintsOf}
use Rattle.version_store.specs.Editions.{Records, version_shape, IsMadeTwice, MarksChanges, FollowsRows}

hints_of : (e : Records) (a2 s c : WordMatrix) → IsMadeTwice e a2 s c →
    AreHintsOf e.plan.width (digits_at e.plan e.records) (first_public (version_shape e) e.plan.dimension e.plan.seed) a2 s c
unfolding server_hint hint_matrix
hints_of e a2 s c h = record {
  server = h.server_is;
  client = h.client_is ∙ ap (product (server_hint e.plan e.records)) (sym h.second_is);
}

pub made_of : (e : Records) (a2 s c : WordMatrix) → a2 ≡ second_public (version_shape e) e.plan.dimension e.plan.seed →
    AreHintsOf e.plan.width (digits_at e.plan e.records) (first_public (version_shape e) e.plan.dimension e.plan.seed) a2 s c → IsMadeTwice e a2 s c
unfolding server_hint hint_matrix
made_of e a2 s c second h = record {
  second_is = second;
  server_is = h.server;
  client_is = h.client ∙ ap (product (server_hint e.plan e.records)) second;
}

pub simple_hint : (e : Records) →
    hint_matrix Simple e.plan e.records ≡ product (digits_at e.plan e.records) (first_public (version_shape e) e.plan.dimension e.plan.seed)
unfolding hint_matrix hint_of
simple_hint e = refl

pub server_rows : (e : Records) → (server_hint e.plan e.records).rows ≡ e.plan.dimension * split_count e.plan.width
unfolding server_hint
server_rows e = refl

pub server_cols : (e : Records) → (server_hint e.plan e.records).cols ≡ digit_rows (version_shape e)
unfolding server_hint
server_cols e = refl

pub client_rows : (e : Records) → (hint_matrix Double e.plan e.records).rows ≡ e.plan.dimension * split_count e.plan.width
unfolding server_hint hint_matrix
client_rows e = refl

pub client_cols : (e : Records) → (hint_matrix Double e.plan e.records).cols ≡ e.plan.dimension
unfolding hint_matrix
client_cols e = refl

-- the hints of a version with other records, as many
followed : (e : Records) (rs : List (List ℕ)) (hint a2 s s' c c' : WordMatrix) (before marks : List Bool) → length rs ≡ length e.records →
    hint ≡ hint_matrix Simple e.plan rs → length before ≡ digit_rows (version_shape e) →
    MarksChanges (digits_at e.plan e.records) (digits_at e.plan rs) before marks →
    FollowsRows e.plan.width hint a2 s s' c c' marks → IsMadeTwice e a2 s c → IsMadeTwice (record { plan = e.plan; records = rs }) a2 s' c'
followed e rs hint a2 s s' c c' before marks many is count marked follows h =
    let p : Plan = e.plan in
    let new : Records = record { plan = p; records = rs } in
    let same : version_shape e ≡ version_shape new = ap (shape_at p) (sym many) in
    let a1 : WordMatrix = first_public (version_shape new) p.dimension p.seed in
    let public : first_public (version_shape e) p.dimension p.seed ≡ a1 = ap (λ l. first_public l p.dimension p.seed) same in
    made_of new a2 s' c' (h.second_is ∙ ap (λ l. second_public l p.dimension p.seed) same)
    (follows (digits_at p e.records) (digits_at p rs) a1 (record {
      old_whole = length-list_of _ _;
      new_whole = length-list_of _ _;
      rows = refl;
      cols = ap digit_cols same;
      inner = refl;
      count = marked.count ∙ count;
      hint_is = is ∙ simple_hint new;
      kept = λ r below unmarked. (marked.kept r below unmarked).1;
    }) (subst (λ a. AreHintsOf p.width (digits_at p e.records) a a2 s c) public (hints_of e a2 s c h)))

pub version_followed : (e e' : Records) (rs : List (List ℕ)) (hint a2 s s' c c' : WordMatrix) (w : ℕ) (before marks : List Bool) →
    e' ≡ record e { records = rs } → length rs ≡ length e.records →
    hint ≡ hint_matrix Simple e'.plan e'.records → length before ≡ digit_rows (version_shape e) →
    MarksChanges (digits_at e.plan e.records) (digits_at e'.plan e'.records) before marks →
    w ≡ e'.plan.width → FollowsRows w hint a2 s s' c c' marks → IsMadeTwice e a2 s c → IsMadeTwice e' a2 s' c'
version_followed e e' rs hint a2 s s' c c' w before marks is many made count marked width follows h =
    let new : Records = record { plan = e.plan; records = rs } in
    subst (λ x. IsMadeTwice x a2 s' c') (sym is)
    (followed e rs hint a2 s s' c c' before marks many (made ∙ ap (λ x. hint_matrix Simple x.plan x.records) is) count
    (subst (λ x. MarksChanges (digits_at e.plan e.records) (digits_at x.plan x.records) before marks) is marked)
    (subst (λ x. FollowsRows x hint a2 s s' c c' marks) (width ∙ ap (λ x. x.plan.width) is) follows) h)

use Rattle.std.proofs.Common.{arith, refl, ◌≡◌, ℕ, ◌+◌, ◌-◌, ◌*◌, ◌%◌, ◌<◌, ◌^◌, length}
use Rattle.std.specs.Prelude.{slice_index}
use Rattle.matrix_u32.proofs.Products.{words_are}
use Rattle.hint_update.proofs.add_difference.Goals as goal

-- nothing added leaves a word
nothing : (x y k : ℕ) → x < 2 ^ 32 → k ≡ 0 → x ≡ (x + k * y) % 2 ^ 32
nothing x y k small e = rw e (omega arith)

pub returns-else-old-new : goal.returns-else-old-new
returns-else-old-new g c =
    let none : (c.args.new + (2 ^ 32 - c.args.old)) % 2 ^ 32 ≡ 0 = omega (arith, c.if-old-new.false) in
    words_are c.args.out.now (length c.args.out.now) _ refl (λ q h.
    let small : slice_index c.args.out.now q < 2 ^ 32 = omega (arith, c.type_inv.out q) in
    nothing (slice_index c.args.out.now q) (slice_index c.args.x.now q) _ small none)

-- Records of one length are all records.
use Rattle.std.proofs.Common.{◌≡◌, ℕ, List, [], ◌∷◌, Bool, true, false, cond, refl}
use Rattle.std.specs.List.{list_all}
use Rattle.digit_pack.specs.Slots.{is_slotted, is_slot}
use Rattle.pir_schemes.specs.declared.plan.Plan.{Plan}
use Rattle.pir_schemes.specs.Plans.{is_slot_of}

-- by whether the form is 2
all_by : (b : Bool) (xs : List (List ℕ)) → list_all (λ bytes. cond b (is_slot bytes) true) xs ≡ cond b (list_all is_slot xs) true
all_by true xs = refl
all_by false [] = refl
all_by false (x ∷ xs) = all_by false xs

pub all_slots : (p : Plan) (xs : List (List ℕ)) → list_all (is_slot_of p) xs ≡ cond (is_slotted p.form) (list_all is_slot xs) true
unfolding is_slot_of
all_slots p xs = all_by (is_slotted p.form) xs

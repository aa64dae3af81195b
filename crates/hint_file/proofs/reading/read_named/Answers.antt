use Rattle.std.proofs.Common.{◌≡◌, ◌<◌, ◌+◌, ◌∙◌, length, sym, rules}
use Rattle.hint_file.proofs.HeadBytes.{same_fault}
use Rattle.hint_file.proofs.WholeRead.{IsNoFile, IsNoNamed, some_more, left_of_all, whatever_is_left, too_few, other_magic, no_named, named_read}
use Rattle.hint_file.proofs.reading.read_named.Goals as goal

pub returns-in-Err-clause-damaged : goal.returns-in-Err-clause-damaged
returns-in-Err-clause-damaged g c = λ h.
    let eight : length c.args.magic.now ≡ 8 = search rules in
    some_more _ (λ bytes. length bytes < 8 + c.args.name_len) (IsNoNamed c.args.magic.now c.args.name_len)
    (c.in-Err.ensures.damaged (same_fault c.in-Err.fault _ h)) (λ bytes short. too_few c.args.magic.now bytes c.args.name_len eight short)

pub returns-in_default-clause-damaged : goal.returns-in_default-clause-damaged
returns-in_default-clause-damaged g c = λ h.
    let eight : length c.args.magic.now ≡ 8 = search rules in
    whatever_is_left _ _ c.in-Ok.front.items (IsNoNamed c.args.magic.now c.args.name_len) c.in-Ok.ensures.read
    (λ ys. other_magic c.args.magic.now c.in-Ok.front.items ys c.args.name_len eight c.in-Ok.ensures.count
    (λ rest e. c.in_default.ensures.cases rest (c.deref.ensures.value ∙ e)))

pub returns-clause-read : goal.returns-clause-read
returns-clause-read g c =
    let eight : length c.args.magic.now ≡ 8 = search rules in
    let same : c.deref-2.result.now ≡ c.in-Ok.front.items = c.deref-2.ensures.value in
    named_read c.read_after.result c.args.magic.now c.in-Ok.front.items _ c.args.name_len _ _ eight c.in-Ok.ensures.count
    (sym c.deref.ensures.value ∙ c.in-Some.ensures.cases) c.in-Ok.ensures.read (rw same at c.read_after.ensures.read)

pub returns-clause-damaged : goal.returns-clause-damaged
returns-clause-damaged g c = λ h.
    let eight : length c.args.magic.now ≡ 8 = search rules in
    let same : c.deref-2.result.now ≡ c.in-Ok.front.items = c.deref-2.ensures.value in
    left_of_all _ _ c.in-Ok.front.items (IsNoNamed c.args.magic.now c.args.name_len) (IsNoFile c.in-Ok.front.items) c.in-Ok.ensures.read
    (rw same at (c.read_after.ensures.damaged h))
    (λ ys never. no_named c.args.magic.now c.in-Ok.front.items ys c.args.name_len eight c.in-Ok.ensures.count never)

use Rattle.std.proofs.Common.{◌≡◌, refl, Err, rules}
use Rattle.frame_codec.specs.declared.reader.ReadFault.TheVariants.{TooLong, UnknownKind, BadPayload}
use Rattle.server_core.proofs.Pieces.{reported}
use Rattle.server_core.proofs.session.end_piece.Goals as goal

pub returns-in-Err-TooLong-clause-ok : goal.returns-in-Err-TooLong-clause-ok
returns-in-Err-TooLong-clause-ok c =
    let fault : c.in-Err-TooLong.field-0 ≡ TooLong = search rules in
    rw (c.in-Err-TooLong.is, fault)
    (reported (Err TooLong) c.args.middle c.refuse.result c.args.out.now.items c.refuse.new.out.items
    (λ after e. (e, refl)) c.refuse.ensures.closed c.refuse.ensures.items c.refuse.ensures.fits)

pub returns-in-Err-UnknownKind-clause-ok : goal.returns-in-Err-UnknownKind-clause-ok
returns-in-Err-UnknownKind-clause-ok c =
    let fault : c.in-Err-UnknownKind.field-0 ≡ UnknownKind = search rules in
    rw (c.in-Err-UnknownKind.is, fault)
    (reported (Err UnknownKind) c.args.middle c.refuse-in-Err-UnknownKind.result c.args.out.now.items c.refuse-in-Err-UnknownKind.new.out.items
    (λ after e. (e, refl)) c.refuse-in-Err-UnknownKind.ensures.closed c.refuse-in-Err-UnknownKind.ensures.items c.refuse-in-Err-UnknownKind.ensures.fits)

pub returns-in-Err-BadPayload-clause-ok : goal.returns-in-Err-BadPayload-clause-ok
returns-in-Err-BadPayload-clause-ok c =
    let fault : c.in-Err-BadPayload.field-0 ≡ BadPayload = search rules in
    rw (c.in-Err-BadPayload.is, fault)
    (reported (Err BadPayload) c.args.middle c.refuse-in-Err-BadPayload.result c.args.out.now.items c.refuse-in-Err-BadPayload.new.out.items
    (λ after e. (e, refl)) c.refuse-in-Err-BadPayload.ensures.closed c.refuse-in-Err-BadPayload.ensures.items c.refuse-in-Err-BadPayload.ensures.fits)

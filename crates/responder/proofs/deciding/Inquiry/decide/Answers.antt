use Rattle.std.proofs.Common.{◌∙◌}
use Rattle.responder.proofs.Inquiring.{passed, listing_passed, on_passed, off_passed, other_passed, five_on, five_off}
use Rattle.responder.proofs.deciding.Inquiry.decide.Goals as goal

pub returns-in-ProfileInquiry : goal.returns-in-ProfileInquiry
returns-in-ProfileInquiry c =
    λ d own others draw q w.
    let me = c.args.self in
    let p = passed me.m c.in-Some.address c.if-m-eq0.false c.if-not-is_supported.ensures c.in-Some.ensures in
    listing_passed d own others me.listing.rows.now me.m me.from.number c.in-Some.address.byte p q w (me.asker ∙ w.source) c.in-ProfileInquiry.is

pub returns-in-SetOn : goal.returns-in-SetOn
returns-in-SetOn c =
    λ d own others draw q w.
    let me = c.args.self in
    let p = passed me.m c.in-Some.address c.if-m-eq0.false c.if-not-is_supported.ensures c.in-Some.ensures in
    on_passed d own others me.listing.rows.now me.m me.from.number c.in-Some.address.byte p q w (me.asker ∙ w.source) c.in-SetOn.id _ c.in-SetOn.is (c.switch.ensures d own others draw)

pub returns-in-SetOff : goal.returns-in-SetOff
returns-in-SetOff c =
    λ d own others draw q w.
    let me = c.args.self in
    let p = passed me.m c.in-Some.address c.if-m-eq0.false c.if-not-is_supported.ensures c.in-Some.ensures in
    off_passed d own others me.listing.rows.now me.m me.from.number c.in-Some.address.byte p q w (me.asker ∙ w.source) c.in-SetOff.id _ c.in-SetOff.is (c.switch-in-SetOff.ensures d own others draw)

pub returns-in_default-content : goal.returns-in_default-content
returns-in_default-content c =
    λ d own others draw q w.
    let me = c.args.self in
    let p = passed me.m c.in-Some.address c.if-m-eq0.false c.if-not-is_supported.ensures c.in-Some.ensures in
    other_passed d own others me.listing.rows.now me.m me.from.number c.in-Some.address.byte p q w (me.asker ∙ w.source) _ c.in_default-content.not-ProfileInquiry c.in_default-content.not-SetOn c.in_default-content.not-SetOff c.in_default-content.not-Discovery (c.deny-in_default-content.ensures d own others me.listing.rows.now draw)

pub switch-requires : goal.switch-requires
switch-requires c = five_on c.args.self.m.content c.in-SetOn.id c.in-SetOn.is c.requires

pub switch-requires-in-SetOff : goal.switch-requires-in-SetOff
switch-requires-in-SetOff c = five_off c.args.self.m.content c.in-SetOff.id c.in-SetOff.is c.requires

use Rattle.std.proofs.Common.{Ok, sym, ap, ◌∙◌}
use Rattle.std.proofs.lemmas.Result.{err_from_is_err_and}
use Rattle.message.specs.Messages.{fields}
use Rattle.responder.specs.Plans.{opened, refuse}
use Rattle.responder.specs.Actions.{decided}
use Rattle.responder.proofs.Opening.{read_shows, read_refused, source_refused, from_own, not_for_us, ours_read, sort_refused, reply_noted, only_heard, inquired, invalidated_number}
use Rattle.responder.proofs.deciding.decide.Goals as goal

pub returns-in_err-m : goal.returns-in_err-m
returns-in_err-m c =
    λ d others draw.
    let p = err_from_is_err_and c.from_residual.result c.from_residual.ensures.1 in
    let e = read_refused c.in_err-m.field-0.0 c.args.message.now (opened d c.args.own others c.args.listing.rows.now (fields c.args.message.now) draw) c.in_err-m.ensures.value in
    ap (decided d c.args.own others c.args.listing.rows.now draw) p.1 ∙ ap refuse p.2 ∙ e

pub returns-in_err-from : goal.returns-in_err-from
returns-in_err-from c =
    λ d others draw.
    let p = err_from_is_err_and c.from_residual-in_err-from.result c.from_residual-in_err-from.ensures.1 in
    let r = read_shows c.in_ok-m.m c.args.message.now c.in_ok-m.ensures.value c.in_ok-m.ensures.shape in
    ap (decided d c.args.own others c.args.listing.rows.now draw) p.1 ∙ ap refuse (p.2 ∙ c.in_err-from.ensures.0)
    ∙ source_refused d c.args.own others c.args.listing.rows.now draw c.in_ok-m.m c.args.message.now r.0 r.1 c.in_err-from.ensures.1

pub returns-then-m-own : goal.returns-then-m-own
returns-then-m-own c =
    λ d others draw.
    let r = read_shows c.in_ok-m.m c.args.message.now c.in_ok-m.ensures.value c.in_ok-m.ensures.shape in
    from_own d c.args.own others c.args.listing.rows.now draw c.in_ok-m.m c.args.message.now r.0 r.1 _ c.in_ok-from.ensures.1 c.if-m-own.true (c.clash.ensures d c.args.own others c.args.listing.rows.now draw)

pub returns-then-not-is_for_us : goal.returns-then-not-is_for_us
returns-then-not-is_for_us c =
    λ d others draw.
    let r = read_shows c.in_ok-m.m c.args.message.now c.in_ok-m.ensures.value c.in_ok-m.ensures.shape in
    not_for_us d c.args.own others c.args.listing.rows.now draw c.in_ok-m.m c.args.message.now r.0 r.1 c.in_ok-from.ensures.1 c.if-m-own.false (sym c.if-not-is_for_us.ensures)

pub returns-in_err-sort : goal.returns-in_err-sort
returns-in_err-sort c =
    λ d others draw.
    let p = err_from_is_err_and c.from_residual-in_err-sort.result c.from_residual-in_err-sort.ensures.1 in
    let o = ours_read c.args.own c.in_ok-m.m c.args.message.now c.in_ok-m.ensures.value c.in_ok-m.ensures.shape c.in_ok-from.ensures.1 c.if-m-own.false c.if-not-is_for_us.ensures in
    ap (decided d c.args.own others c.args.listing.rows.now draw) p.1 ∙ ap refuse p.2
    ∙ sort_refused d c.args.own others c.args.listing.rows.now draw c.in_ok-m.m c.args.message.now o c.in_err-sort.field-0.0 c.in_err-sort.ensures

pub returns-in-Reply : goal.returns-in-Reply
returns-in-Reply c =
    λ d others draw.
    let o = ours_read c.args.own c.in_ok-m.m c.args.message.now c.in_ok-m.ensures.value c.in_ok-m.ensures.shape c.in_ok-from.ensures.1 c.if-m-own.false c.if-not-is_for_us.ensures in
    reply_noted d c.args.own others c.args.listing.rows.now draw c.in_ok-m.m c.args.message.now o _ c.in_ok-from.ensures.0 (ap Ok (sym c.in-Reply.is) ∙ c.in_ok-sort.ensures)

pub returns-in-Heard : goal.returns-in-Heard
returns-in-Heard c =
    λ d others draw.
    let o = ours_read c.args.own c.in_ok-m.m c.args.message.now c.in_ok-m.ensures.value c.in_ok-m.ensures.shape c.in_ok-from.ensures.1 c.if-m-own.false c.if-not-is_for_us.ensures in
    only_heard d c.args.own others c.args.listing.rows.now draw c.in_ok-m.m c.args.message.now o (ap Ok (sym c.in-Heard.is) ∙ c.in_ok-sort.ensures)

pub returns-in-Invalidation : goal.returns-in-Invalidation
returns-in-Invalidation c =
    λ d others draw.
    let o = ours_read c.args.own c.in_ok-m.m c.args.message.now c.in_ok-m.ensures.value c.in_ok-m.ensures.shape c.in_ok-from.ensures.1 c.if-m-own.false c.if-not-is_for_us.ensures in
    invalidated_number d c.args.own others c.args.listing.rows.now draw c.in_ok-m.m c.args.message.now o _ (ap Ok (sym c.in-Invalidation.is) ∙ c.in_ok-sort.ensures) (c.invalidated.ensures d others c.args.listing.rows.now draw (fields c.args.message.now) o.shows)

pub returns-in-Inquiry : goal.returns-in-Inquiry
returns-in-Inquiry c =
    λ d others draw.
    let o = ours_read c.args.own c.in_ok-m.m c.args.message.now c.in_ok-m.ensures.value c.in_ok-m.ensures.shape c.in_ok-from.ensures.1 c.if-m-own.false c.if-not-is_for_us.ensures in
    inquired d c.args.own others c.args.listing.rows.now draw c.in_ok-m.m c.args.message.now o _ (ap Ok (sym c.in-Inquiry.is) ∙ c.in_ok-sort.ensures) (c.decide.ensures d c.args.own others draw (fields c.args.message.now) o.shows)

pub decide-requires : goal.decide-requires
decide-requires c = c.in_ok-m.ensures.shape.parts

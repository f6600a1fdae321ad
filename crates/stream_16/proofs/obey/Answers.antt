use Rattle.device_16.specs.Model.{worded}
use Rattle.stream_16.proofs.Obeying.{short-served, lent_fits, long-served}
use Rattle.stream_16.proofs.obey.Goals as goal

pub returns-then-buffer-lt-REPLY_MOST : goal.returns-then-buffer-lt-REPLY_MOST
returns-then-buffer-lt-REPLY_MOST c =
    let a = c.args in
    short-served (worded a.r) a.request a.page.now a.buffer.now _ c.if-buffer-lt-REPLY_MOST.true c.unknown.ensures

pub follow-requires : goal.follow-requires
follow-requires c =
    let ordered = c in
    let a = ordered.args in
    lent_fits (worded a.r) a.request a.page.now a.buffer.now ordered.if-buffer-lt-REPLY_MOST.false ordered.order_of.ensures

pub returns : goal.returns
returns c =
    let ordered = c in
    let a = ordered.args in
    long-served (worded a.r) a.request a.page.now a.buffer.now ordered.if-buffer-lt-REPLY_MOST.false ordered.order_of.ensures c.follow.ensures

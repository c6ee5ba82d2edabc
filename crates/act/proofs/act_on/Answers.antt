use Rattle.act.proofs.Answered.{unread, fits, elsewhere, performed}
use Rattle.act.proofs.act_on.Goals as goal

pub returns-in_default : goal.returns-in_default
returns-in_default c =
    let both = unread c.args.image.now c.args.bytes.now c.requires _ _ c.read_action-read.ensures.0 c.in_default.is in
    record { code = both.0; bytes = both.1 }

pub returns-then-home-replica_of : goal.returns-then-home-replica_of
returns-then-home-replica_of c =
    let both = elsewhere c.args.image.now c.args.bytes.now c.requires _ _ c.read_action-read.ensures.0 _ c.in-Some.is _ _ c.home_of-home.ensures c.replica_of.ensures c.if-home-replica_of.true in
    record { code = both.0; bytes = both.1 }

pub perform-requires : goal.perform-requires
perform-requires c = (fits c.args.image.now c.args.bytes.now c.requires _ _ c.read_action-read.ensures.0 _ c.in-Some.is, record { octets = c.fits-image; passes = c.requires })

pub returns : goal.returns
returns c =
    let both = performed c.args.image.now c.args.bytes.now c.requires _ _ c.read_action-read.ensures.0 _ c.in-Some.is _ _ c.home_of-home.ensures c.replica_of.ensures _ _ c.if-home-replica_of.false c.perform.ensures.code c.perform.ensures.bytes in
    record { code = both.0; bytes = both.1 }

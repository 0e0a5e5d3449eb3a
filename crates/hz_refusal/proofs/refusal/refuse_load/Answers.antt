use Rattle.hz_refusal.specs.declared.status.Status.TheVariants as status
use Rattle.hz_refusal.specs.Refused.{LoadPrints}
use Rattle.hz_refusal.specs.Refusal.{unread_line, long_line}
use Rattle.hz_refusal.proofs.PutEndings.{Ends-put}
use Rattle.hz_refusal.proofs.RefusedTexts.{LoadPrints-failed, LoadPrints-long}
use Rattle.hz_refusal.proofs.refusal.refuse_load.Goals as goal

pub returns-in-Failed : goal.returns-in-Failed
returns-in-Failed g c =
    Ends-put g.K.Sink.output g.K.Sink.faults (LoadPrints c.args.place c.args.fault) c.args.out.now c.put_unread.new.out status.File (unread_line c.args.place)
    c.put_unread.result c.status_after.result tt (LoadPrints-failed c.args.place c.args.fault c.in-Failed.is) c.put_unread.ensures c.status_after.ensures

pub returns-in-TooLong : goal.returns-in-TooLong
returns-in-TooLong g c =
    Ends-put g.K.Sink.output g.K.Sink.faults (LoadPrints c.args.place c.args.fault) c.args.out.now c.put_long.new.out status.TooLong (long_line c.args.place)
    c.put_long.result c.status_after-in-TooLong.result tt (LoadPrints-long c.args.place c.args.fault c.in-TooLong.is) c.put_long.ensures c.status_after-in-TooLong.ensures

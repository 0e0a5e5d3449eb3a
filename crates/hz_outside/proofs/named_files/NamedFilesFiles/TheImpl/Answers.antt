-- What files that are opened by their names count gives what every store of files ensures.
use Rattle.std.proofs.Common.{◌≡◌, ap, rules}
use Rattle.hz_outside.proofs.CountLemmas.{kept, failed-rose, long-rose, no-fault, none-long}
use Rattle.hz_outside.proofs.named_files.NamedFilesFiles.TheImpl.Goals as goal

pub load-tells : goal.load-tells
load-tells g c =
    let counts = kept _ _ c.args.place c.result c.ensures.counts in
    record {
      short = c.ensures.short;
      bytes = c.ensures.bytes;
      failed = λ e. let h = rw e at c.ensures.counts in rw h (failed-rose c.args.self.now c.args.place);
      too_long = λ e. let h = rw e at c.ensures.counts in rw h (long-rose c.args.self.now c.args.place);
      over = c.ensures.over;
      no_fault = no-fault _ _ c.args.place c.result c.ensures.counts;
      none_long = none-long _ _ c.args.place c.result c.ensures.counts;
      same_files = ap (λ (from : _). g.O.OpenNamed.told from) counts.from;
      faults_never_fall = counts.faults;
      longs_never_fall = counts.longs;
      other_faults = counts.other_faults;
      other_longs = counts.other_longs;
      other_granted = search rules;
    }

pub load_into-tells : goal.load_into-tells
load_into-tells g c =
    let counts = kept _ _ c.args.place c.result c.ensures.counts in
    record {
      fixed = c.ensures.fixed;
      short = c.ensures.short;
      bytes = c.ensures.bytes;
      failed = λ e. let h = rw e at c.ensures.counts in rw h (failed-rose c.args.self.now c.args.place);
      too_long = λ e. let h = rw e at c.ensures.counts in rw h (long-rose c.args.self.now c.args.place);
      over = c.ensures.over;
      no_fault = no-fault _ _ c.args.place c.result c.ensures.counts;
      none_long = none-long _ _ c.args.place c.result c.ensures.counts;
      same_files = ap (λ (from : _). g.O.OpenNamed.told from) counts.from;
      faults_never_fall = counts.faults;
      longs_never_fall = counts.longs;
      other_faults = counts.other_faults;
      other_longs = counts.other_longs;
      other_granted = search rules;
    }

use Rattle.std.proofs.Common.{sym, subst}
use Rattle.hz_bench.specs.declared.fault.BenchFault.{BenchFault}
use Rattle.hz_write.specs.Writes.{Wrote}
use Rattle.hz_bench.specs.Fault.{bench_row}
use Rattle.hz_formats.specs.Refusal.{refused_line, refused_at}
use Rattle.hz_formats.proofs.refusal.put_bench_fault.Goals as goal

pub returns-in-Twice : goal.returns-in-Twice
unfolding refused_at
returns-in-Twice g c =
    subst (λ (fault : BenchFault). Wrote g.K.Sink.output g.K.Sink.faults (refused_line (bench_row fault).said) c.args.out.now c.put_counted.new.out c.put_counted.result)
    (sym c.in-Twice.is) c.put_counted.ensures

pub returns-in-Name : goal.returns-in-Name
unfolding refused_at
returns-in-Name g c =
    subst (λ (fault : BenchFault). Wrote g.K.Sink.output g.K.Sink.faults (refused_line (bench_row fault).said) c.args.out.now c.put_at-in-Name.new.out c.put_at-in-Name.result) (sym c.in-Name.is) c.put_at-in-Name.ensures

pub returns-in-KindUnknown : goal.returns-in-KindUnknown
unfolding refused_at
returns-in-KindUnknown g c =
    subst (λ (fault : BenchFault). Wrote g.K.Sink.output g.K.Sink.faults (refused_line (bench_row fault).said) c.args.out.now c.put_at-in-KindUnknown.new.out c.put_at-in-KindUnknown.result) (sym c.in-KindUnknown.is) c.put_at-in-KindUnknown.ensures

pub returns-in-Pins : goal.returns-in-Pins
unfolding refused_at
returns-in-Pins g c =
    subst (λ (fault : BenchFault). Wrote g.K.Sink.output g.K.Sink.faults (refused_line (bench_row fault).said) c.args.out.now c.put_counted-in-Pins.new.out c.put_counted-in-Pins.result) (sym c.in-Pins.is) c.put_counted-in-Pins.ensures

pub returns-in-Undefined : goal.returns-in-Undefined
unfolding refused_at
returns-in-Undefined g c =
    subst (λ (fault : BenchFault). Wrote g.K.Sink.output g.K.Sink.faults (refused_line (bench_row fault).said) c.args.out.now c.put_at-in-Undefined.new.out c.put_at-in-Undefined.result) (sym c.in-Undefined.is) c.put_at-in-Undefined.ensures

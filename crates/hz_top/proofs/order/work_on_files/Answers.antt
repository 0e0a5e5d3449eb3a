use Rattle.std.proofs.Common.{inl, inr, ap, sym, subst, ◌∙◌, Err, Option, List, ℕ, refl}
use Rattle.hz_outside.specs.declared.fault.Place.TheVariants.{First}
use Rattle.hz_outside.specs.declared.fault.LoadFault.TheVariants as load
use Rattle.hz_refusal.specs.declared.status.Status.TheVariants as status
use Rattle.hz_refusal.specs.Ends.{Ends}
use Rattle.hz_top.specs.Outcome.{IsFilesOutcome, IsSecondFileOutcome, observation_of}
use Rattle.hz_top.specs.Reached.{IsLineOnCircuit, tells_line}
use Rattle.hz_formats.specs.Netlists.{IsNetlistText, IsToldNetlistLine}
use Rattle.hz_top.specs.Tasks.{comes_of}
use Rattle.hz_formats.specs.Refusal.{netlist_fault_line}
use Rattle.hz_formats.specs.Refused.{NetlistPrints}
use Rattle.hz_refusal.specs.Refused.{LoadPrints}
use Rattle.hz_refusal.proofs.PutEndings.{Ends-more, Ends-nothing}
use Rattle.hz_top.proofs.JobOutcomes.{FileRefused-load, IsSecondFileOutcome-before}
use Rattle.hz_formats.proofs.RefusedNetlists.{netlist-refused, told-netlist-line}
use Rattle.hz_top.proofs.LeftFiles.{second-stays, loaded, first-read}
use Rattle.hz_top.proofs.ReachedLemmas.{of-file, no-netlist, first-reached, second-line}
use Rattle.hz_top.proofs.order.work_on_files.Goals as goal

pub returns-in-Err-clause-ends : goal.returns-in-Err-clause-ends
returns-in-Err-clause-ends g c =
    let told = observation_of g.F.Files.held g.F.Files.faults g.F.Files.longs c.args.files.now c.load.new.self in
    let first = c.args.first.now in
    let comes = IsFilesOutcome told (comes_of c.args.work.options c.args.work.task) first c.args.second.now in
    subst (Ends g.K.Sink.output g.K.Sink.faults comes c.args.out.now c.refuse_load.new.out) (sym c.at_first.ensures.status)
    (Ends-more g.K.Sink.output g.K.Sink.faults (LoadPrints First c.in-Err.fault) comes c.args.out.now c.refuse_load.new.out c.refuse_load.result
    (λ own text says. inl (
      (c.load.ensures.other_faults, c.load.ensures.other_longs),
      FileRefused-load told First first c.in-Err.fault
          (λ is. c.load.ensures.failed (c.in-Err.is ∙ ap Err is)) (λ is. c.load.ensures.too_long (c.in-Err.is ∙ ap Err is))
          (λ is. c.load.ensures.over (c.in-Err.is ∙ ap Err is)) own text says,
    )) c.refuse_load.ensures)

pub returns-in-Err-read_netlist-clause-ends : goal.returns-in-Err-read_netlist-clause-ends
returns-in-Err-read_netlist-clause-ends g c =
    let told = observation_of g.F.Files.held g.F.Files.faults g.F.Files.longs c.args.files.now c.load.new.self in
    let comes = IsFilesOutcome told (comes_of c.args.work.options c.args.work.task) c.args.first.now c.args.second.now in
    let fault = c.in-Err-read_netlist.fault in
    let bytes = c.as_slice.result.now in
    subst (Ends g.K.Sink.output g.K.Sink.faults comes c.args.out.now c.refuse_netlist.new.out) (sym c.at_first-in-Err-read_netlist.ensures.status)
    (Ends-more g.K.Sink.output g.K.Sink.faults (NetlistPrints fault) comes c.args.out.now c.refuse_netlist.new.out c.refuse_netlist.result
    (λ own text says.
    let refused = netlist-refused c.args.first.now bytes fault c.in-Err-read_netlist.ensures.refusal own text says in
    inr (
      bytes,
      (rw c.as_slice.ensures.value c.in-Ok.ensures.bytes, rw c.as_slice.ensures.len c.in-Ok.ensures.short),
      inl (netlist_fault_line fault, refused.0, (c.load.ensures.other_faults, c.load.ensures.other_longs), refused.1),
    )) c.refuse_netlist.ensures.ends)

pub returns-in_default-clause-ends : goal.returns-in_default-clause-ends
returns-in_default-clause-ends g c =
    let told = observation_of g.F.Files.held g.F.Files.faults g.F.Files.longs c.args.files.now c.load.new.self in
    let comes = IsFilesOutcome told (comes_of c.args.work.options c.args.work.task) c.args.first.now c.args.second.now in
    subst (Ends g.K.Sink.output g.K.Sink.faults comes c.args.out.now c.args.out.now) (sym c.at_first-in_default.ensures.status)
    (Ends-nothing g.K.Sink.output g.K.Sink.faults comes c.args.out.now c.args.out.now refl)

pub returns-clause-ends : goal.returns-clause-ends
returns-clause-ends g c =
    let held = g.F.Files.held in
    let faults = g.F.Files.faults in
    let longs = g.F.Files.longs in
    let now = c.work_on_second-ending.new.files in
    let name = c.args.second.now in
    let net = c.in-Ok-build.net in
    let comes = comes_of c.args.work.options c.args.work.task in
    Ends-more g.K.Sink.output g.K.Sink.faults (IsSecondFileOutcome (observation_of held faults longs c.load.new.self now) (comes net) name)
    (IsFilesOutcome (observation_of held faults longs c.args.files.now now) comes c.args.first.now name) c.args.out.now c.work_on_second-ending.new.out c.work_on_second-ending.result.status
    (λ own text says. inr (
      c.as_slice.result.now,
      (rw c.as_slice.ensures.value c.in-Ok.ensures.bytes, rw c.as_slice.ensures.len c.in-Ok.ensures.short),
      inr (
        net,
        subst (IsNetlistText c.args.first.now c.as_slice.result.now) (sym c.in-Ok-build.ensures.ok) c.in-Ok-read_netlist.ensures.netlist,
        IsSecondFileOutcome-before held faults longs c.args.files.now c.load.new.self now (comes net) name
            c.load.ensures.same_files c.load.ensures.other_faults c.load.ensures.other_longs own text says,
      ),
    )) c.work_on_second-ending.ensures.ends

pub returns-in-Err-clause-files : goal.returns-in-Err-clause-files
returns-in-Err-clause-files g c =
    second-stays (observation_of g.F.Files.held g.F.Files.faults g.F.Files.longs c.args.files.now c.load.new.self)
    c.args.work.task c.args.work.options c.args.first.now c.args.second.now (c.load.ensures.other_faults, c.load.ensures.other_longs)

pub returns-in-Err-read_netlist-clause-files : goal.returns-in-Err-read_netlist-clause-files
returns-in-Err-read_netlist-clause-files g c =
    second-stays (observation_of g.F.Files.held g.F.Files.faults g.F.Files.longs c.args.files.now c.load.new.self)
    c.args.work.task c.args.work.options c.args.first.now c.args.second.now (c.load.ensures.other_faults, c.load.ensures.other_longs)

pub returns-in_default-clause-files : goal.returns-in_default-clause-files
returns-in_default-clause-files g c =
    second-stays (observation_of g.F.Files.held g.F.Files.faults g.F.Files.longs c.args.files.now c.load.new.self)
    c.args.work.task c.args.work.options c.args.first.now c.args.second.now (c.load.ensures.other_faults, c.load.ensures.other_longs)

pub returns-clause-files : goal.returns-clause-files
returns-clause-files g c =
    let first_now = c.load.ensures.no_fault (loaded _ _ load.Failed c.in-Ok.is) in
    let first_long = c.load.ensures.none_long (loaded _ _ load.TooLong c.in-Ok.is) in
    first-read (observation_of g.F.Files.held g.F.Files.faults g.F.Files.longs c.args.files.now c.work_on_second-ending.new.files)
    c.args.work.task c.args.work.options c.args.first.now c.args.second.now c.as_slice.result.now c.in-Ok-read_netlist.circuit
    (c.work_on_second-ending.ensures.stay.0 ∙ first_now, c.work_on_second-ending.ensures.stay.1 ∙ first_long)
    (rw c.as_slice.ensures.value c.in-Ok.ensures.bytes) (rw c.as_slice.ensures.len c.in-Ok.ensures.short) c.in-Ok-read_netlist.ensures.netlist

pub returns-in-Err-clause-reached : goal.returns-in-Err-clause-reached
returns-in-Err-clause-reached g c =
    first-reached (observation_of g.F.Files.held g.F.Files.faults g.F.Files.longs c.args.files.now c.load.new.self) c.args.work.task c.args.work.options c.args.first.now c.args.second.now
    c.refuse_load.result c.at_first.result.status c.at_first.result.reached 0 c.at_first.ensures.status c.at_first.ensures.reached (c.load.ensures.other_faults, c.load.ensures.other_longs)
    (inl (no-netlist g.K.Sink.output g.K.Sink.faults First c.in-Err.fault c.args.out.now c.refuse_load.new.out c.refuse_load.result c.refuse_load.ensures, refl))

pub returns-in-Err-read_netlist-clause-reached : goal.returns-in-Err-read_netlist-clause-reached
returns-in-Err-read_netlist-clause-reached g c =
    let held = g.F.Files.held in
    let at = c.at_first-in-Err-read_netlist in
    let own = c.refuse_netlist.result in
    let bytes = c.as_slice.result.now in
    let told = told-netlist-line c.args.first.now bytes c.in-Err-read_netlist.fault own c.line.result c.in-Err-read_netlist.ensures.refusal c.refuse_netlist.ensures.memory c.line.ensures in
    first-reached (observation_of held g.F.Files.faults g.F.Files.longs c.args.files.now c.load.new.self) c.args.work.task c.args.work.options c.args.first.now c.args.second.now
    own at.result.status at.result.reached c.line.result at.ensures.status at.ensures.reached (c.load.ensures.other_faults, c.load.ensures.other_longs)
    (inr (of-file (held c.args.files.now) c.args.first.now bytes (λ bytes. IsToldNetlistLine c.args.first.now bytes own c.line.result) (rw c.as_slice.ensures.value c.in-Ok.ensures.bytes) told))

pub returns-in_default-clause-reached : goal.returns-in_default-clause-reached
returns-in_default-clause-reached g c =
    let at = c.at_first-in_default in
    first-reached (observation_of g.F.Files.held g.F.Files.faults g.F.Files.longs c.args.files.now c.load.new.self) c.args.work.task c.args.work.options c.args.first.now c.args.second.now
    status.Memory at.result.status at.result.reached 0 at.ensures.status at.ensures.reached (c.load.ensures.other_faults, c.load.ensures.other_longs)
    (inl (λ is. cc, refl))

pub returns-clause-reached : goal.returns-clause-reached
returns-clause-reached g c =
    let held = g.F.Files.held in
    let ending = c.work_on_second-ending in
    let net = c.in-Ok-build.net in
    let told = observation_of held g.F.Files.faults g.F.Files.longs c.args.files.now ending.new.files in
    let P : Option (List ℕ → List ℕ) → Type 0 = λ held. IsLineOnCircuit held (tells_line c.args.work.task net) c.args.second.now ending.result.status ending.result.line in
    inr (inr (
      refl,
      refl,
      second-line told c.args.work.task c.args.first.now c.args.second.now c.as_slice.result.now net ending.result.status ending.result.line
          (rw c.as_slice.ensures.value c.in-Ok.ensures.bytes)
          (subst (IsNetlistText c.args.first.now c.as_slice.result.now) (sym c.in-Ok-build.ensures.ok) c.in-Ok-read_netlist.ensures.netlist)
          (subst P c.load.ensures.same_files ending.ensures.line),
    ))

use Rattle.std.proofs.Common.{◌≡◌, ◌∙◌, sym, ap, ℕ, List, ◌-◌, ◌≤◌, length, nat_eq, arith}
use Rattle.std.specs.Hash.FoldHasher.{read_u32}
use Rattle.std.specs.Str.{bytes_eq}
use Rattle.hz_core.proofs.EndLemmas.{ends-tell}
use Rattle.hz_netlist.proofs.key.KeyPartialEq.eq.Goals as goal

pub returns-then-self-other : goal.returns-then-self-other
returns-then-self-other c =
    let name = c.self.inside.bytes.now in
    let other = c.other.inside.bytes.now in
    let four = c.if-len-lt4.false in
    let counted = c.if-len-other.false in
    let four_too : 4 ≤ length other = omega (arith, four, counted) in
    let front : read_u32 name 0 ≡ read_u32 other 0 = sym (c.self.invariant.begins four) ∙ (c.if-self-other.true ∙ c.other.invariant.begins four_too) in
    let back : c.other.inside.last ≡ read_u32 other (length name - 4) = c.other.invariant.ends four_too ∙ ap (λ (count : ℕ). read_u32 other (count - 4)) (sym counted) in
    ap (λ (last : ℕ). nat_eq last c.other.inside.last) (c.self.invariant.ends four) ∙ ap (nat_eq (read_u32 name (length name - 4))) back
    ∙ ends-tell name other (c.self.invariant.bytes four) (c.other.invariant.bytes four_too) counted four c.if-len-gt8.false front
    ∙ ap (λ (bytes : List ℕ). bytes_eq bytes other) c.self.view_is ∙ ap (bytes_eq c.args.self.now) c.other.view_is

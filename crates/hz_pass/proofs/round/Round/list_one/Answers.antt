use Rattle.std.proofs.Common.{rules, ◌≡◌, ◌∙◌, ◌+◌, ℕ, Bool, true, false, not, length, vec_len, take, refl, ap, arith}
use mir.Val.{bool_byte}
use Rattle.hz_pass.proofs.OpenLists.{open-put}
use Rattle.hz_pass.proofs.round.Round.list_one.Goals as goal

twice : (b : Bool) → not (not b) ≡ b
twice true = refl
twice false = refl

pub push_reserved-requires : goal.push_reserved-requires
push_reserved-requires c = omega (arith, c.requires.listed.few, c.requires.var, c.requires.room, c.args.listed.now.ok.0)

pub returns-clause-listed : goal.returns-clause-listed
returns-clause-listed c =
    let wanted = not c.is_final-is_open.result in
    let long : vec_len c.args.listed.now ≡ length c.args.listed.now.items = search rules in
    open-put c.args.self.now c.args.var c.args.listed.now.items c.push_reserved.new.self.items c.truncate.new.self.items wanted
    (ap not c.is_final-is_open.ensures ∙ twice _) c.requires.var c.requires.listed c.push_reserved.ensures.items
    (c.truncate.ensures.items ∙ ap (λ (n : ℕ). take (n + bool_byte wanted) c.push_reserved.new.self.items) (c.len-count.ensures ∙ long))

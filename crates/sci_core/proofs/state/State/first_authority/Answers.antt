use Rattle.std.proofs.Common.{◌≡◌, ℕ, false, Option, Some, None, refl}
use Rattle.std.specs.Prelude.{is_some}
use borrow.Author.Count.{below_more}
use Rattle.sci_words.specs.declared.stamped.Stamped.{Stamped}
use Rattle.sci_core.specs.Sharing.{settled_at}
use Rattle.sci_cache.specs.Member.{contents_held}
use Rattle.sci_core.proofs.state.State.first_authority.Goals as goal

nothing : (contents : Option Stamped) → is_some contents ≡ false → contents ≡ None
nothing None none = refl
nothing (Some c) none = absurd (cc)

pub loop-n-preserved : goal.loop-n-preserved
loop-n-preserved c =
    let here : is_some (contents_held (settled_at c.args.self.now c.args.line c.loop-n.n)) ≡ false = cc in
    below_more (λ (m : ℕ). contents_held (settled_at c.args.self.now c.args.line m) ≡ None) c.loop-n.n c.loop-n.invariant
    (nothing (contents_held (settled_at c.args.self.now c.args.line c.loop-n.n)) here)

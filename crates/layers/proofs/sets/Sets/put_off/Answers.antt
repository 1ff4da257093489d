use Rattle.std.proofs.Common.{◌≡◌, ℕ, ◌+◌, ◌<◌, false, List, length, get_or, sym, ap, ◌∙◌, refl, subst, arith}
use Rattle.std.proofs.lemmas.Bool.{eqb-true}
use Rattle.message.specs.Rows.{pair_of}
use Rattle.message.specs.declared.pair.Pair.{Pair}
use Rattle.message.specs.declared.row.Row.{Row}
use Rattle.host.specs.Hosts.{Switched}
use Rattle.host.specs.Tables.{blank}
use Rattle.layers.specs.declared.member.Member.{Member}
use Rattle.layers.specs.declared.sets.Sets.{Sets}
use Rattle.layers.specs.Models.{members_of}
use Rattle.layers.specs.Calls.{SetsKeep}
use Rattle.layers.specs.Clearing.{Cleared}
use Rattle.layers.specs.Sets.{rival}
use Rattle.layers.specs.Lawfulness.{rival-parts}
use Rattle.layers.proofs.Setting.{cleared_start, cleared_length, cleared_pass, cleared_turn}
use Rattle.layers.proofs.sets.Sets.put_off.Goals as goal
use Rattle.layers.proofs.sets.Sets.put_off.Goals.{then-is_rival, else-is_rival}

pub loop-k-init : goal.loop-k-init
loop-k-init g c = (cleared_start _ _ _ _ _ _ c.requires, (refl, g.B.Host.keeps_itself c.args.self.now.below))

pub bounds-rows-k : goal.bounds-rows-k
bounds-rows-k g c =
    omega (arith, ap length c.rows-count.ensures, ap length c.rows.ensures, cleared_length _ _ _ _ _ _ _ _ _ _ c.loop-k.invariant.0)

pub loop-k-preserved : goal.loop-k-preserved
loop-k-preserved g c =
    let ms = members_of c.args.self.now.members in
    let b = c.args.self.now.below in
    let m = c.loop-k.self.below in
    let same = c.loop-k.invariant.1 in
    let a = c.args.pair.address in
    let i = c.args.pair.id in
    let k = c.loop-k.k in
    let e = c.rows.ensures in
    let lk : k < length (g.B.Host.listing b) = omega (arith, ap length c.rows-count.ensures) in
    let told : c.is_rival.result ≡ rival ms a i (get_or (g.B.Host.listing m) k blank) =
    c.is_rival.ensures ∙ ap (λ (n : List Member). rival n a i (get_or c.rows.result.now k blank)) (sym same.0) ∙ ap (λ (l : List Row). rival ms a i (get_or l k blank)) e in
    let T : Sets g.row.B.Denot → Type 0 =
    λ s. Cleared ms (g.B.Host.listing b) (g.B.Host.consents b) (g.B.Host.fixed b) a i (k + 1) (g.B.Host.listing s.below) (g.B.Host.consents s.below) (g.B.Host.fixed s.below)
    × SetsKeep g.B.Host.keeps c.args.self.now s in
    elim c.if-is_rival.branch [
      | then-is_rival w ↦
          let z = w.switch.new.self in
          let y : Row = get_or (g.B.Host.listing m) k blank in
          let is : w.pair.result ≡ pair_of y = w.pair.ensures ∙ ap (λ (l : List Row). pair_of (get_or l k blank)) e in
          let here : a ≡ y.address = eqb-true a y.address (rival-parts ms a i y (sym told ∙ w.if-is_rival.true)).here in
          let D : ℕ → List ℕ → Type 0 =
          λ n j. Switched (g.B.Host.listing m) (g.B.Host.consents m) (g.B.Host.fixed m) n j false (g.B.Host.listing z) (g.B.Host.consents z) (g.B.Host.fixed z) w.switch.result in
          let does : D a y.id = subst (λ (n : ℕ). D n y.id) (sym here) (subst (λ (p : Pair). D p.address p.id) is w.switch.ensures.does) in
          subst T (sym w.self-is) (
            cleared_turn ms _ _ _ a i k _ _ _ c.loop-k.invariant.0 blank _ _ _ _ lk (g.B.Host.lawful m).sound.order c.requires (sym told ∙ w.if-is_rival.true) does,
            (same.0, g.B.Host.keeps_on b m z same.1 w.switch.ensures.same),
          )
      | else-is_rival w ↦
          subst T (sym w.self-is) (cleared_pass ms _ _ _ a i k _ _ _ c.loop-k.invariant.0 blank lk (sym told ∙ w.if-is_rival.false), same)
    ]

-- What the host below does is what the layer that withholds does, where it withholds nothing.
use Rattle.std.proofs.Common.{◌≡◌, ℕ, Bool, true, false, ◌&&◌, List, sym, ap, ◌∙◌}
use Rattle.message.specs.declared.row.Row.{Row}
use Rattle.host.specs.Rows.{look}
use Rattle.host.specs.Hosts.{Consents, permits, differs, goes, Switched}
use Rattle.message.specs.declared.pair.Pair.{Pair}
use Rattle.layers.specs.Holding.{withheld, held}
use Rattle.layers.specs.Lawfulness.{only}

held-permits : (ps : List Pair) (c : Consents) (a : ℕ) (i : List ℕ) (on : Bool) → withheld ps a i ≡ false → permits (held ps c) a i on ≡ permits c a i on
held-permits ps c a i true h = rw h
held-permits ps c a i false h = rw h

pub held_switched : (ps : List Pair) (l : List Row) (c : Consents) (f : Bool) (a : ℕ) (i : List ℕ) (on : Bool) (l' : List Row) (c' : Consents) (f' r : Bool)
    → withheld ps a i ≡ false → Switched l c f a i on l' c' f' r → Switched l (held ps c) f a i on l' (held ps c') f' r
held_switched ps l c f a i on l' c' f' r h s =
    let g : goes l (held ps c) a i on ≡ goes l c a i on = ap (λ b. b && differs (look l a i) on) (held-permits ps c a i on h) in
    record {
      told = s.told ∙ sym g;
      rows = rw (g, h) s.rows;
      still = λ t. ap (held ps) (s.still (sym g ∙ t));
      fixed = s.fixed;
      kept = λ t o.
          let k = s.kept (sym g ∙ t) o in
          record {
            on = λ b j ne y. let q = only (withheld ps b j) (c.on b j) y in rw q.0 (k.on b j ne q.1);
            off = λ b j ne y. let q = only (withheld ps b j) (c.off b j) y in rw q.0 (k.off b j ne q.1);
            names = λ b j m ne nm y. let q = only (withheld ps b j) (c.on b j) y in rw q.0 (k.names b j m ne nm q.1);
          };
    }

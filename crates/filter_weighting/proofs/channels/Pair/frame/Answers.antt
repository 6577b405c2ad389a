-- `Pair::frame` meets its contract: each channel by the definitions of one frame. Assumes nothing.
use Rattle.std.proofs.Common.{◌≡◌, ◌+◌, map, get_or, set, ap, ◌∙◌, arith}
use lib.Ieee.{nan}
use Rattle.samples.proofs.Columns.{read_as}
use Rattle.filter_recurrence.specs.Recurrence.{head, output, shift, next, out}
use Rattle.filter_weighting.proofs.channels.Pair.frame.Goals as goal

pub returns : goal.returns
unfolding next out
returns g c =
    let a = c.args in
    let f = g.S.Sample.in_f64 in
    let m = a.self.one in
    let n = a.self.two in
    let src = map f a.samples.now in
    let x : c.to_f64-x.result ≡ get_or src a.i nan = c.to_f64-x.ensures ∙ read_as f a.samples.now a.i _ nan (omega (arith, c.requires.i_in_bounds)) c.index-samples-i.is in
    let y : c.to_f64-y.result ≡ get_or src (a.i + 1) nan = c.to_f64-y.ensures ∙ read_as f a.samples.now (a.i + 1) _ nan c.requires.i_in_bounds c.index-samples-i-2.is in
    let s : c.head-s.result ≡ head a.c.a m (get_or src a.i nan) = c.head-s.ensures ∙ ap (head a.c.a m) x in
    let t : c.head-t.result ≡ head a.c.a n (get_or src (a.i + 1) nan) = c.head-t.ensures ∙ ap (head a.c.a n) y in
    let u : c.output-u.result ≡ out a.c.a a.c.b m (get_or src a.i nan) = c.output-u.ensures ∙ ap (output a.c.b m) s in
    let v : c.output-v.result ≡ out a.c.a a.c.b n (get_or src (a.i + 1) nan) = c.output-v.ensures ∙ ap (output a.c.b n) t in (
      (c.shifted.ensures ∙ ap (shift m) s, c.shifted-2.ensures ∙ ap (shift n) t),
      λ i. set (set a.dest.now a.j (u i)) (a.j + a.part) (v i),
    )

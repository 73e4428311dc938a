-- What is passed and what is still to search make up the place.
use Rattle.model_text.proofs.TextLaws.{find-here, find-next, find-later, find-end}
use lib.ListN.{length}
use native.Mathlib.Omega.{arith}
use Prim.Native.Nat.{◌<◌, ◌≤◌, ◌+◌}
use Rattle.read_text.proofs.find_byte.Goals as goal

pub returns-then-s-i : goal.returns-then-s-i
returns-then-s-i c =
    let a = c.args in
    let h : c.loop-i.i < length a.s.now = omega arith in
    omega (arith, find-here a.c a.s.now _ h c.if-s-i.true)

pub returns-then-s-i-2 : goal.returns-then-s-i-2
returns-then-s-i-2 c =
    let a = c.args in
    let i = c.loop-i.i in
    let h : i < length a.s.now = omega arith in
    omega (arith, find-next a.c a.s.now i h c.if-s-i.false, find-here a.c a.s.now (i + 1) c.loop-i-test.true c.if-s-i-2.true)

pub loop-i-preserved : goal.loop-i-preserved
loop-i-preserved c =
    let a = c.args in
    omega (arith, find-later a.c a.s.now _ c.loop-i-test.true c.if-s-i.false c.if-s-i-2.false)

pub returns-then-s-i-3 : goal.returns-then-s-i-3
returns-then-s-i-3 c =
    let a = c.args in
    omega (arith, find-here a.c a.s.now _ c.if-i-s.true c.if-s-i-3.true)

pub returns-then-i-s : goal.returns-then-i-s
returns-then-i-s c =
    let a = c.args in
    let i = c.loop-i.i in
    let h : length a.s.now ≤ i + 1 = omega arith in
    omega (arith, find-next a.c a.s.now i c.if-i-s.true c.if-s-i-3.false, find-end a.c a.s.now (i + 1) h)

pub returns : goal.returns
returns c =
    let a = c.args in
    omega (arith, find-end a.c a.s.now _ c.if-i-s.false)

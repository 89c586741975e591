use native.Mathlib.Omega.{arith}
use Rattle.decimal.proofs.Digits.{digit_count_small, digit_count_is, digit_count_four, digit_count_word}
use Rattle.decimal.proofs.digit_count.Goals as goal

pub loop-rest-init : goal.loop-rest-init
loop-rest-init c = (omega arith, digit_count_word _ c.ranges.x.fits)

pub loop-rest-preserved : goal.loop-rest-preserved
loop-rest-preserved c = omega (arith, digit_count_four c.loop-rest.rest (omega arith))

pub returns-then-rest-lt10 : goal.returns-then-rest-lt10
returns-then-rest-lt10 c = omega (arith, digit_count_small _ c.if-rest-lt10.true)

pub returns-then-rest-lt100 : goal.returns-then-rest-lt100
returns-then-rest-lt100 c = omega (arith, digit_count_is 1 _ c.if-rest-lt10.false c.if-rest-lt100.true)

pub returns-then-rest-lt1000 : goal.returns-then-rest-lt1000
returns-then-rest-lt1000 c = omega (arith, digit_count_is 2 _ c.if-rest-lt100.false c.if-rest-lt1000.true)

pub returns : goal.returns
returns c = omega (arith, digit_count_is 3 _ c.if-rest-lt1000.false c.loop-rest-test.false)

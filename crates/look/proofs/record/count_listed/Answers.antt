-- `look::record::count_listed` meets its contract. Assumes nothing.
use Rattle.std.proofs.Common.{refl, arith}
use Rattle.format.proofs.Sides.{sized_in}
use Rattle.look.proofs.Looked.{length_is, length_most, places_are, count_is, end_is}
use Rattle.look.proofs.record.count_listed.Goals as goal

pub returns-then-s-lt5 : goal.returns-then-s-lt5
returns-then-s-lt5 c = (refl, omega (arith, length_is c.args.s.now))

pub returns-then-s-list : goal.returns-then-s-list
returns-then-s-list c =
    let s = c.args.s.now in
    let n = places_are s c.places-n.ensures.0 c.size_of.ensures.0 c.size_of.ensures.1 in
    (refl, omega (arith, length_is s, n))

pub count_in-count-requires : goal.count_in-count-requires
count_in-count-requires c =
    let s = c.args.s.now in
    let n = places_are s c.places-n.ensures.0 c.size_of.ensures.0 c.size_of.ensures.1 in
    (c.places-n.ensures.1, omega (arith, n, (sized_in s).whole), omega arith)

pub overflow_mul-count : goal.overflow_mul-count
overflow_mul-count c =
    let s = c.args.s.now in
    let n = places_are s c.places-n.ensures.0 c.size_of.ensures.0 c.size_of.ensures.1 in
    omega (arith, end_is s n (count_is s n c.count_in-count.ensures), length_most s)

pub overflow_add-list-2 : goal.overflow_add-list-2
overflow_add-list-2 c =
    let s = c.args.s.now in
    let n = places_are s c.places-n.ensures.0 c.size_of.ensures.0 c.size_of.ensures.1 in
    omega (arith, end_is s n (count_is s n c.count_in-count.ensures), length_most s)

pub returns-then-s-list-2 : goal.returns-then-s-list-2
returns-then-s-list-2 c =
    let s = c.args.s.now in
    let n = places_are s c.places-n.ensures.0 c.size_of.ensures.0 c.size_of.ensures.1 in
    (refl, omega (arith, end_is s n (count_is s n c.count_in-count.ensures)))

pub returns : goal.returns
returns c =
    let s = c.args.s.now in
    let n = places_are s c.places-n.ensures.0 c.size_of.ensures.0 c.size_of.ensures.1 in
    let count = count_is s n c.count_in-count.ensures in
    (omega (arith, end_is s n count), count)

use Rattle.rt_filter.proofs.job.with_polygon.Goals as goal

pub returns-in-Some : goal.returns-in-Some
returns-in-Some g c = rw (← c.in-Some.ensures.value) c.with_shape.ensures

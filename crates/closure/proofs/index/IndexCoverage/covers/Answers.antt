use Rattle.closure.proofs.index.IndexCoverage.covers.Goals as goal

pub returns-clause-exact : goal.returns-clause-exact
returns-clause-exact g c = rw (← c.self.view_is) c.is_covered.ensures

pub returns-clause-same : goal.returns-clause-same
returns-clause-same g c = rw (← c.self.view_is) (λ s. (λ h. h, λ h. h))

pub mod Written
pub mod Plans
pub mod PlanViews
pub mod Carried
pub mod MessagePlans
pub mod TreeStores

pub mod Walking
pub mod PartWalk
pub mod PropertyWalk
pub mod ExtentWalk
pub mod StepsInside
pub mod StepsEnd
